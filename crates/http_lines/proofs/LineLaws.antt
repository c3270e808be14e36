-- Where lines end, in a text that comes in pieces.
use Rattle.std.proofs.Common.{◌≡◌, ℕ, ◌+◌, ◌<◌, true, false, List, length, drop, get_or, Option, Some, None, refl, sym, ap, ◌∙◌, arith, cond}
use Rattle.std.specs.Option.{option_map}
use Rattle.std.proofs.lemmas.List.{drop_more}
use Rattle.http_lines.specs.declared.scan.Scan.{Scan}
use Rattle.http_lines.specs.SectionEnds.{section_end, scanned, next_scan, is_last}

-- one more byte, which is not the last
pub end-more : (s t : Scan) (bs : List ℕ) (i : ℕ) (whole : Option ℕ) → i < length bs → is_last s (get_or bs i 0) ≡ false → t ≡ next_scan s (get_or bs i 0)
    → option_map (λ n. i + n) (section_end s (drop i bs)) ≡ whole → option_map (λ n. (i + 1) + n) (section_end t (drop (i + 1) bs)) ≡ whole
end-more s t bs i whole within nope is same =
    shifted i (section_end t (drop (i + 1) bs)) ∙ ap (λ u. option_map (λ n. i + n) (option_map (λ n. n + 1) (section_end u (drop (i + 1) bs)))) is
    ∙ ap (λ b. option_map (λ n. i + n) (cond b (Some 1) (option_map (λ n. n + 1) (section_end (next_scan s (get_or bs i 0)) (drop (i + 1) bs))))) (sym nope)
    ∙ ap (λ ds. option_map (λ n. i + n) (section_end s ds)) (sym (drop_more bs i 0 within)) ∙ same where
      shifted : (i : ℕ) (o : Option ℕ) → option_map (λ n. (i + 1) + n) o ≡ option_map (λ n. i + n) (option_map (λ n. n + 1) o)
      shifted i None = refl
      shifted i (Some n) = let e : (i + 1) + n ≡ i + (n + 1) = omega arith in ap Some e

-- the last byte
pub end-here : (s : Scan) (bs : List ℕ) (i : ℕ) (whole : Option ℕ) → i < length bs → is_last s (get_or bs i 0) ≡ true
    → option_map (λ n. i + n) (section_end s (drop i bs)) ≡ whole → Some (i + 1) ≡ whole
end-here s bs i whole within here same =
    ap (λ b. option_map (λ n. i + n) (cond b (Some 1) (option_map (λ n. n + 1) (section_end (next_scan s (get_or bs i 0)) (drop (i + 1) bs))))) (sym here)
    ∙ ap (λ ds. option_map (λ n. i + n) (section_end s ds)) (sym (drop_more bs i 0 within)) ∙ same

pub scanned-more : (s t u : Scan) (bs : List ℕ) (i : ℕ) → i < length bs → t ≡ next_scan s (get_or bs i 0)
    → scanned s (drop i bs) ≡ u → scanned t (drop (i + 1) bs) ≡ u
scanned-more s t u bs i within is same =
    ap (λ v. scanned v (drop (i + 1) bs)) is ∙ ap (scanned s) (sym (drop_more bs i 0 within)) ∙ same
