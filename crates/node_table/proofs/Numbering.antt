-- Lists of what holds of each number below a number.
use Rattle.std.proofs.Common.{◌≡◌, ℕ, ◌+◌, ◌<◌, List, [], ◌∷◌, ◌++◌, length, get_or, map, Some, sym, ap, ◌∙◌, zero-add, arith}
use Rattle.std.specs.Prelude.{slice_get}
use Rattle.std.specs.Option.{option_map}
use Rattle.std.specs.List.{range_with_len}
use Rattle.std.proofs.lemmas.Option.{slice_get-map, slice_get-get_or}
use Rattle.std.proofs.lemmas.List.FromFn.{length-range_with_len, get_or-range_with_len, get_or-map-range_with_len, map-range_with_len_more, length-map-range_with_len}

pub numbered_get : {X : Type 0} (f : ℕ → X) (count n : ℕ) → n < count → slice_get (map f (range_with_len 0 count)) n ≡ Some (f n)
numbered_get {X} f count n h =
    let within : n < length (range_with_len 0 count) = omega (arith, length-range_with_len 0 count) in
    slice_get-map f (range_with_len 0 count) n
    ∙ ap (option_map f) (slice_get-get_or (range_with_len 0 count) n 0 within)
    ∙ ap (λ (m : ℕ). Some (f m)) (get_or-range_with_len 0 count n 0 h ∙ zero-add n)

pub numbered_more : {X : Type 0} (f : ℕ → X) (n : ℕ) (x : X) (now more : List X) → now ≡ map f (range_with_len 0 n) → x ≡ f n → more ≡ now ++ x ∷ []
    → more ≡ map f (range_with_len 0 (n + 1))
numbered_more {X} f n x now more is same pushed =
    pushed ∙ ap (λ (xs : List X). xs ++ x ∷ []) is ∙ ap (λ (y : X). map f (range_with_len 0 n) ++ y ∷ []) same
    ∙ sym (map-range_with_len_more f 0 n n (zero-add n))

pub numbered_at : {X : Type 0} (f : ℕ → X) (count n : ℕ) (d : X) (now : List X) → n < length now → now ≡ map f (range_with_len 0 count) → get_or now n d ≡ f n
numbered_at {X} f count n d now h is =
    let within : n < count = omega (arith, ap length is, length-map-range_with_len f 0 count) in
    ap (λ (xs : List X). get_or xs n d) is ∙ get_or-map-range_with_len f 0 count n n d within (zero-add n)
