-- Numbers that digits write.
use Rattle.std.proofs.Common.{◌≡◌, ℕ, ◌+◌, ◌*◌, ◌^◌, ◌<◌, ◌≤◌, true, List, [], ◌∷◌, ap, sym, ◌∙◌, arith, nat_le, None, Some, if◌then◌else◌, ◌-◌, length, drop, get_or}
use Rattle.std.proofs.lemmas.List.{drop_more}
use Rattle.std.specs.Char.{is_ascii_digit, digit_value}
use Rattle.std.specs.Str.Parse.{digits_value, digits_value_after}
use Rattle.std.proofs.lemmas.Bool.Decides.{nat_tests}
use Rattle.cond_expr.specs.Tokens.{leading_digits, magnitude_of}

-- more digits make no smaller number
pub digits_value_after-ge : (v : ℕ) (ds : List ℕ) → v ≤ digits_value_after 10 v ds
digits_value_after-ge v [] = omega arith
digits_value_after-ge v (d ∷ ds) = omega (arith, digits_value_after-ge (v * 10 + digit_value d) ds)

past_limit : (n : ℕ) → 2 ^ 63 < n → None ≡ (if nat_le n (2 ^ 63) then Some n else None)
past_limit n h = grind (arith, nat_tests)

digit : (b : ℕ) → is_ascii_digit b ≡ true → digit_value b ≡ b - 48
digit b h = grind (arith, nat_tests)

-- a number that is past 2 ^ 63 already stays so
past_already : (v b : ℕ) (bs whole : List ℕ) → digits_value_after 10 v (leading_digits (b ∷ bs)) ≡ digits_value 10 whole → is_ascii_digit b ≡ true → 2 ^ 63 < v * 10 + (b - 48) → None ≡ magnitude_of whole
past_already v b bs whole same is large =
    let here : digits_value_after 10 (v * 10 + digit_value b) (leading_digits bs) ≡ digits_value 10 whole =
    ap (λ t. digits_value_after 10 v (if t then b ∷ leading_digits bs else [])) (sym is) ∙ same in
    let past : 2 ^ 63 < digits_value 10 whole = omega (arith, digits_value_after-ge (v * 10 + digit_value b) (leading_digits bs), digit b is) in
    past_limit (digits_value 10 whole) past

pub too_large : (v i : ℕ) (bs : List ℕ) → i < length bs → digits_value_after 10 v (leading_digits (drop i bs)) ≡ digits_value 10 (leading_digits bs) → is_ascii_digit (get_or bs i 0) ≡ true → 2 ^ 63 < v * 10 + (get_or bs i 0 - 48) → None ≡ magnitude_of (leading_digits bs)
too_large v i bs within same is large =
    past_already v (get_or bs i 0) (drop (i + 1) bs) (leading_digits bs) (ap (λ ds. digits_value_after 10 v (leading_digits ds)) (sym (drop_more bs i 0 within)) ∙ same) is large
