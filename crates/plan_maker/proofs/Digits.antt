-- Small numbers as texts.
use Rattle.std.proofs.Common.{◌≡◌, ℕ, zero, suc, ◌+◌, ◌<◌, ◌≤◌, ◌%◌, true, false, List, ◌++◌, map, length, refl, arith, nat_lt, nat_le, codes, decimal}
use Rattle.std.specs.List.{list_any, range_with_len}
use Rattle.std.specs.Fmt.{digits}
use Rattle.std.proofs.lemmas.Bool.Decides.{nat_tests}
use Rattle.std.proofs.lemmas.Fmt.{length-decimal-le}
use Rattle.jm_base.specs.Outside.{same_bytes}
use Rattle.template_text.specs.Pieces.{text, no_more}
use Rattle.template_text.specs.Scan.{reading, pieces_from, table, first_of}
use Rattle.plan_maker.specs.Generated.{loop_name, sampler_name}

pub not_above : (m n : ℕ) → n ≤ m → nat_lt m n ≡ false
not_above m n h = grind (arith, nat_tests)

pub not_reached : (m n : ℕ) → n < m → nat_le m n ≡ false
not_reached m n h = grind (arith, nat_tests)

pub reached : (m n : ℕ) → m ≤ n → nat_le m n ≡ true
reached m n h = grind (arith, nat_tests)

-- a digit is a template of plain text
pub digit_read : (m : ℕ) → m < 7 → reading (decimal (m + 1)) ≡ text (decimal (m + 1)) no_more
unfolding digits pieces_from table first_of
digit_read zero h = refl
digit_read (suc zero) h = refl
digit_read (suc (suc zero)) h = refl
digit_read (suc (suc (suc zero))) h = refl
digit_read (suc (suc (suc (suc zero)))) h = refl
digit_read (suc (suc (suc (suc (suc zero))))) h = refl
digit_read (suc (suc (suc (suc (suc (suc zero)))))) h = refl
digit_read (suc (suc (suc (suc (suc (suc (suc m))))))) h = absurd (omega (arith, h))

pub short_loop : (i : ℕ) → i < 2047 → nat_lt 256 (length (loop_name i)) ≡ false
short_loop i h = let d = length-decimal-le 4 i (omega arith) (omega (arith, h)) (omega (arith, h)) in not_above 256 (length (loop_name i)) (omega (arith, d))

pub short_sampler : (i : ℕ) → i % 16 < 16 → nat_lt 256 (length (sampler_name i)) ≡ false
short_sampler i h = let d = length-decimal-le 2 (i % 16) (omega arith) (omega (arith, h)) (omega (arith, h)) in not_above 256 (length (sampler_name i)) (omega (arith, d))

-- the names of sixteen samplers
abbrev pub sixteen : List (List ℕ)
sixteen = map sampler_name (range_with_len 0 16)

pub is_seen : (m : ℕ) → m < 16 → list_any (same_bytes (codes "S" ++ decimal m)) sixteen ≡ true
unfolding digits
is_seen zero h = refl
is_seen (suc zero) h = refl
is_seen (suc (suc zero)) h = refl
is_seen (suc (suc (suc zero))) h = refl
is_seen (suc (suc (suc (suc zero)))) h = refl
is_seen (suc (suc (suc (suc (suc zero))))) h = refl
is_seen (suc (suc (suc (suc (suc (suc zero)))))) h = refl
is_seen (suc (suc (suc (suc (suc (suc (suc zero))))))) h = refl
is_seen (suc (suc (suc (suc (suc (suc (suc (suc zero)))))))) h = refl
is_seen (suc (suc (suc (suc (suc (suc (suc (suc (suc zero))))))))) h = refl
is_seen (suc (suc (suc (suc (suc (suc (suc (suc (suc (suc zero)))))))))) h = refl
is_seen (suc (suc (suc (suc (suc (suc (suc (suc (suc (suc (suc zero))))))))))) h = refl
is_seen (suc (suc (suc (suc (suc (suc (suc (suc (suc (suc (suc (suc zero)))))))))))) h = refl
is_seen (suc (suc (suc (suc (suc (suc (suc (suc (suc (suc (suc (suc (suc zero))))))))))))) h = refl
is_seen (suc (suc (suc (suc (suc (suc (suc (suc (suc (suc (suc (suc (suc (suc zero)))))))))))))) h = refl
is_seen (suc (suc (suc (suc (suc (suc (suc (suc (suc (suc (suc (suc (suc (suc (suc zero))))))))))))))) h = refl
is_seen (suc (suc (suc (suc (suc (suc (suc (suc (suc (suc (suc (suc (suc (suc (suc (suc m)))))))))))))))) h = absurd (omega (arith, h))
