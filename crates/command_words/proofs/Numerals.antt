-- Numbers that digits write.
use Rattle.std.proofs.Common.{◌≡◌, ℕ, ◌+◌, ◌*◌, ◌-◌, ◌<◌, ◌≤◌, true, Bool, List, [], ◌∷◌, ap, sym, ◌∙◌, arith, None, Some, length, drop, get_or}
use Rattle.std.specs.Prelude.{nat_le, ◌&&◌, if◌then◌else◌}
use Rattle.std.proofs.lemmas.List.{drop_more}
use Rattle.std.specs.Char.{is_ascii_digit, digit_value}
use Rattle.std.specs.Str.Parse.{digits_value, digits_value_after}
use Rattle.std.proofs.lemmas.Bool.Decides.{nat_tests}
use Rattle.command_words.specs.WordValues.{number_between}

-- more digits make no smaller number
digits_value_after-ge : (v : ℕ) (ds : List ℕ) → v ≤ digits_value_after 10 v ds
digits_value_after-ge v [] = omega arith
digits_value_after-ge v (d ∷ ds) = omega (arith, digits_value_after-ge (v * 10 + digit_value d) ds)

past : (a b : Bool) (most n : ℕ) → most < n → None ≡ (if a && (b && nat_le n most) then Some n else None)
past a b most n h = grind (arith, nat_tests)

digit : (b : ℕ) → is_ascii_digit b ≡ true → digit_value b ≡ b - 48
digit b h = grind (arith, nat_tests)

-- digits whose number is past the most already write none
pub too_large : (least most v i : ℕ) (bs : List ℕ) → i < length bs → digits_value_after 10 v (drop i bs) ≡ digits_value 10 bs → is_ascii_digit (get_or bs i 0) ≡ true
    → most < v * 10 + (get_or bs i 0 - 48) → None ≡ number_between least most bs
too_large least most v i bs within same is large =
    let here : digits_value_after 10 (v * 10 + digit_value (get_or bs i 0)) (drop (i + 1) bs) ≡ digits_value 10 bs = ap (λ ds. digits_value_after 10 v ds) (sym (drop_more bs i 0 within)) ∙ same in
    past _ _ most (digits_value 10 bs) (omega (arith, here, digits_value_after-ge (v * 10 + digit_value (get_or bs i 0)) (drop (i + 1) bs), digit (get_or bs i 0) is))
