-- Numbers that digits write, and sums of numbers.
use Rattle.std.proofs.Common.{◌≡◌, ℕ, ◌+◌, ◌*◌, ◌^◌, ◌-◌, ◌<◌, true, Bool, List, ◌∷◌, ap, sym, ◌∙◌, arith, None, Some, length, drop, get_or, refl, Option}
use Rattle.std.specs.Prelude.{ℤ, ◌+ℤ◌, nat_le, ◌&&◌, not, ◌==◌, if◌then◌else◌}
use Rattle.std.proofs.lemmas.Int.{ints}
use Rattle.std.specs.List.{list_all}
use Rattle.std.proofs.lemmas.List.{drop_more}
use Rattle.std.specs.Char.{is_ascii_digit, digit_value}
use Rattle.std.specs.Str.Parse.{digits_value, digits_value_after}
use Rattle.std.proofs.lemmas.Bool.Decides.{nat_tests}
use Rattle.cond_expr.proofs.Digits.{digits_value_after-ge}
use Rattle.var_functions.specs.Numbers.{magnitude, plus, within, small_number, sum_of}

past : (b a : Bool) (n : ℕ) → 2 ^ 63 < n → None ≡ (if b && a && nat_le n (2 ^ 63) then Some n else None)
past b a n h = grind (arith, nat_tests)

digit : (b : ℕ) → is_ascii_digit b ≡ true → digit_value b ≡ b - 48
digit b h = grind (arith, nat_tests)

-- digits whose number is past 2 ^ 63 already write none
pub too_large : (v i : ℕ) (bs : List ℕ) → i < length bs → digits_value_after 10 v (drop i bs) ≡ digits_value 10 bs → is_ascii_digit (get_or bs i 0) ≡ true → 2 ^ 63 < v * 10 + (get_or bs i 0 - 48) → None ≡ magnitude bs
too_large v i bs within same is large =
    let here : digits_value_after 10 (v * 10 + digit_value (get_or bs i 0)) (drop (i + 1) bs) ≡ digits_value 10 bs = ap (λ ds. digits_value_after 10 v ds) (sym (drop_more bs i 0 within)) ∙ same in
    past (not (length bs == 0)) (list_all is_ascii_digit bs) (digits_value 10 bs) (omega (arith, here, digits_value_after-ge (v * 10 + digit_value (get_or bs i 0)) (drop (i + 1) bs), digit (get_or bs i 0) is))

plus-assoc : (sum : ℤ) (n rest : Option ℤ) → (m : ℤ) → n ≡ Some m → plus (Some (sum +ℤ m)) rest ≡ plus (Some sum) (plus n rest)
plus-assoc sum n None m is = rw is refl
plus-assoc sum n (Some r) m is = rw is (ap Some (omega (arith, ints)))

-- a sum with one more number, and the sum of the rest
pub one_more : (sum next m : ℤ) (i : ℕ) (texts : List (List ℕ)) (text d : List ℕ) (whole : Option ℤ) → i < length texts → text ≡ get_or texts i d → small_number text ≡ Some m → next ≡ sum +ℤ m
    → plus (Some sum) (sum_of (drop i texts)) ≡ whole → plus (Some next) (sum_of (drop (i + 1) texts)) ≡ whole
one_more sum next m i texts text d whole within is number after so_far =
    let here : drop i texts ≡ text ∷ drop (i + 1) texts = drop_more texts i d within ∙ ap (λ t. t ∷ drop (i + 1) texts) (sym is) in
    rw after (plus-assoc sum (small_number text) (sum_of (drop (i + 1) texts)) m number ∙ (rw here at so_far))
