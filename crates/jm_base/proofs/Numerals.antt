-- Numbers that digits write, cut at a bound.
use Rattle.std.proofs.Common.{◌≡◌, ℕ, ◌+◌, ◌*◌, ◌-◌, ◌<◌, ◌≤◌, Bool, true, false, List, [], ◌∷◌, ap, sym, ◌∙◌, arith, length, drop, get_or, refl, nat_le}
use Rattle.std.specs.Prelude.{min, ◌&&◌}
use Rattle.std.specs.List.{list_all}
use Rattle.std.proofs.lemmas.List.{drop_more}
use Rattle.std.specs.Char.{is_ascii_digit, digit_value}
use Rattle.std.specs.Str.Parse.{digits_value_after}
use Rattle.std.proofs.lemmas.Bool.Decides.{nat_tests}

-- further digits make a number no less
pub after-ge : (v : ℕ) (bs : List ℕ) → v ≤ digits_value_after 10 v bs
after-ge v [] = omega arith
after-ge v (b ∷ bs) = omega (arith, after-ge (v * 10 + digit_value b) bs)

-- a number that is cut is the same at the end
pub after-cut : (m n : ℕ) (bs : List ℕ) → min (digits_value_after 10 (min n m) bs) m ≡ min (digits_value_after 10 n bs) m
after-cut m n bs = go (nat_le n m) refl where
  go : (b : Bool) → nat_le n m ≡ b → min (digits_value_after 10 (min n m) bs) m ≡ min (digits_value_after 10 n bs) m
  go true h = ap (λ k. min (digits_value_after 10 k bs) m) (let le : n ≤ m = grind (arith, nat_tests) in omega (arith, le))
  go false h = let lt : m < n = grind (arith, nat_tests) in omega (arith, lt, after-ge (min n m) bs, after-ge n bs)

digit : (b : ℕ) → is_ascii_digit b ≡ true → digit_value b ≡ b - 48
digit b h = grind (arith, nat_tests)

-- one more digit
pub cut-more : (m v i whole : ℕ) (bs : List ℕ) → i < length bs → is_ascii_digit (get_or bs i 0) ≡ true
    → min (digits_value_after 10 v (drop i bs)) m ≡ whole
    → min (digits_value_after 10 (min (v * 10 + (get_or bs i 0 - 48)) m) (drop (i + 1) bs)) m ≡ whole
cut-more m v i whole bs within is same =
    after-cut m (v * 10 + (get_or bs i 0 - 48)) (drop (i + 1) bs)
    ∙ ap (λ d. min (digits_value_after 10 (v * 10 + d) (drop (i + 1) bs)) m) (sym (digit (get_or bs i 0) is))
    ∙ ap (λ ds. min (digits_value_after 10 v ds) m) (sym (drop_more bs i 0 within)) ∙ same

-- one more digit, and the digits after it
pub digits-more : (i : ℕ) (whole : Bool) (bs : List ℕ) → i < length bs → is_ascii_digit (get_or bs i 0) ≡ true
    → list_all is_ascii_digit (drop i bs) ≡ whole → list_all is_ascii_digit (drop (i + 1) bs) ≡ whole
digits-more i whole bs within is same =
    ap (λ d. d && list_all is_ascii_digit (drop (i + 1) bs)) (sym is) ∙ ap (list_all is_ascii_digit) (sym (drop_more bs i 0 within)) ∙ same
