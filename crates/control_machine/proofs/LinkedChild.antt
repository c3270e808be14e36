-- The child of an element by the links of its plan.
use Rattle.std.proofs.Common.{◌≡◌, ℕ, zero, suc, ◌≤◌, ◌<◌, List, [], ◌∷◌, Option, Some, None, refl, ap, arith}
use Rattle.std.specs.Prelude.{slice_get, take, unwrap_or}
use Rattle.std.specs.List.{filter}
use Rattle.std.specs.Option.{option_map}
use Rattle.std.proofs.lemmas.List.{take_all, length-take}
use Rattle.std.proofs.lemmas.Option.{slice_get_past}
use Rattle.element_tree.specs.declared.kinds.Element.{Element}
use Rattle.cursor_steps.specs.RunningChildren.{is_run_at, runs_of}
use Rattle.node_table.specs.ElementLinks.{child_of}

-- of what is taken off the prefix of a list each place is there, and none past it
pub taken_get : (xs : List ℕ) (n i : ℕ) → i < n → slice_get (take n xs) i ≡ slice_get xs i
taken_get [] n i h = ap (λ l. slice_get l i) (take_all n [] (omega arith))
taken_get (x ∷ xs) zero i h = absurd (omega (arith, h))
taken_get (x ∷ xs) (suc n) zero h = refl
taken_get (x ∷ xs) (suc n) (suc i) h = taken_get xs n i (omega (arith, h))

pub past_taken : (xs : List ℕ) (n i : ℕ) → n ≤ i → slice_get (take n xs) i ≡ None
past_taken xs n i h = slice_get_past (take n xs) i (let l = length-take n xs in omega (arith, l, h))

-- what the links say of the children of an element
pub runs_there : (elements : List Element) (n place : ℕ) (e : Element) → slice_get elements n ≡ Some e → child_of elements n place ≡ slice_get (runs_of elements e) place
runs_there elements n place e there = ap (λ (o : Option Element). slice_get (filter (is_run_at elements) (unwrap_or (option_map (λ (x : Element). x.children) o) [])) place) there
