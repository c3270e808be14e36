-- Loops one after another.
use Rattle.std.proofs.Common.{◌≡◌, ℕ, ◌+◌, List, [], ◌∷◌, ◌++◌, map, refl, arith}
use Rattle.std.proofs.lemmas.List.{map-append}
use Rattle.std.proofs.lemmas.List.FromFn.{map-range_with_len_more}
use Rattle.plan_json.specs.TreeSeen.{raw_view}
use Rattle.plan_json.specs.declared.raw.RawElement.{RawElement}
use Rattle.plan_maker.specs.Generated.{numbers_below}
use Rattle.plan_maker.specs.Raws.{loop_raw}

pub one_more : (xs ys : List RawElement) (x : RawElement) (i : ℕ) → ys ≡ xs ++ x ∷ [] → map raw_view xs ≡ map loop_raw (numbers_below i) → raw_view x ≡ loop_raw i → map raw_view ys ≡ map loop_raw (numbers_below (i + 1))
one_more xs ys x i is kept one = rw (is, map-append raw_view xs (x ∷ []), kept, one, map-range_with_len_more loop_raw 0 i i (omega arith)) refl
