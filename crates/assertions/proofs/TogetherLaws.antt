-- Patterns that hold together, one after another.
use Rattle.std.proofs.Common.{◌≡◌, ℕ, ◌+◌, ◌<◌, ◌≤◌, Bool, true, false, List, [], ◌∷◌, length, drop, refl, sym, ap, ◌∙◌, add-one}
use Rattle.std.specs.Prelude.{not}
use Rattle.std.proofs.Math.ListN.{get_or}
use Rattle.std.proofs.Math.Seq.{drop-cons}
use Rattle.std.proofs.lemmas.List.{drop_all}
use Rattle.assertions.specs.Judging.{turned, together}

first-of-rest : (xs : List (List ℕ)) (i : ℕ) (x : List ℕ) → i < length xs → x ≡ get_or xs i x → drop i xs ≡ x ∷ drop (i + 1) xs
first-of-rest xs i x within is = (rw (add-one i) (drop-cons xs i x within)) ∙ ap (λ q. q ∷ drop (i + 1) xs) (sym is)

decides-one : (either held : Bool) (holds : List ℕ → Bool) (x : List ℕ) (xs : List (List ℕ)) → holds x ≡ held → turned (not either) held ≡ true → together either holds (x ∷ xs) ≡ either
decides-one true true holds x xs is sure = rw is refl
decides-one true false holds x xs is sure = absurd (cc)
decides-one false true holds x xs is sure = absurd (cc)
decides-one false false holds x xs is sure = rw is refl

open-one : (either held : Bool) (holds : List ℕ → Bool) (x : List ℕ) (xs : List (List ℕ)) → holds x ≡ held → turned (not either) held ≡ false → together either holds (x ∷ xs) ≡ together either holds xs
open-one true true holds x xs is unsure = absurd (cc)
open-one true false holds x xs is unsure = rw is refl
open-one false true holds x xs is unsure = rw is refl
open-one false false holds x xs is unsure = absurd (cc)

-- one pattern decides
pub decided : (either held : Bool) (holds : List ℕ → Bool) (xs : List (List ℕ)) (i : ℕ) (x : List ℕ) (all : Bool) → i < length xs → x ≡ get_or xs i x → holds x ≡ held → turned (not either) held ≡ true
    → together either holds (drop i xs) ≡ all → either ≡ all
decided either held holds xs i x all within is h sure so_far =
    sym (decides-one either held holds x (drop (i + 1) xs) h sure) ∙ ap (together either holds) (sym (first-of-rest xs i x within is)) ∙ so_far

-- or leaves it to the later ones
pub left-open : (either held : Bool) (holds : List ℕ → Bool) (xs : List (List ℕ)) (i : ℕ) (x : List ℕ) (all : Bool) → i < length xs → x ≡ get_or xs i x → holds x ≡ held → turned (not either) held ≡ false
    → together either holds (drop i xs) ≡ all → together either holds (drop (i + 1) xs) ≡ all
left-open either held holds xs i x all within is h unsure so_far =
    sym (open-one either held holds x (drop (i + 1) xs) h unsure) ∙ ap (together either holds) (sym (first-of-rest xs i x within is)) ∙ so_far

none-left : (either : Bool) (holds : List ℕ → Bool) → together either holds [] ≡ not either
none-left true holds = refl
none-left false holds = refl

-- after the last one none has decided
pub all-open : (either : Bool) (holds : List ℕ → Bool) (xs : List (List ℕ)) (i : ℕ) (all : Bool) → length xs ≤ i → together either holds (drop i xs) ≡ all → not either ≡ all
all-open either holds xs i all past so_far = sym (none-left either holds) ∙ ap (together either holds) (sym (drop_all i xs past)) ∙ so_far
