-- Templates from left to right.
use Rattle.std.proofs.Common.{◌≡◌, ℕ, zero, suc, ◌+◌, ◌-◌, ◌<◌, true, false, List, [], ◌∷◌, ◌++◌, length, drop, take, Some, None, sym, ap, ◌∙◌, arith, add-one, append_assoc, length-append}
use Rattle.std.proofs.Math.ListN.{get_or}
use Rattle.std.proofs.Math.Seq.{drop-cons}
use Rattle.std.specs.Char.{is_ascii_digit}
use Rattle.std.proofs.lemmas.Bool.{cond-true, cond-false}
use Rattle.extractors.specs.Templates.{digit_count, reference_in, group_at, filled_with, filled_after}

item-first : (xs : List ℕ) (i x : ℕ) → i < length xs → x ≡ get_or xs i x → drop i xs ≡ x ∷ drop (i + 1) xs
item-first xs i x within is = (rw (add-one i) (drop-cons xs i x within)) ∙ ap (λ q. q ∷ drop (i + 1) xs) (sym is)

pub digit_more : (bytes : List ℕ) (i b count total : ℕ) → i < length bytes → b ≡ get_or bytes i b → is_ascii_digit b ≡ true
    → count + digit_count (drop i bytes) ≡ total → count + 1 + digit_count (drop (i + 1) bytes) ≡ total
digit_more bytes i b count total within is digit so_far =
    let cons : digit_count (drop i bytes) ≡ suc (digit_count (drop (i + 1) bytes)) = ap digit_count (item-first bytes i b within is) ∙ cond-true _ _ _ digit in
    omega (arith, so_far, cons)

pub digit_last : (bytes : List ℕ) (i b count total : ℕ) → i < length bytes → b ≡ get_or bytes i b → is_ascii_digit b ≡ false
    → count + digit_count (drop i bytes) ≡ total → count ≡ total
digit_last bytes i b count total within is digit so_far =
    let cons : digit_count (drop i bytes) ≡ 0 = ap digit_count (item-first bytes i b within is) ∙ cond-false _ _ _ digit in
    omega (arith, so_far, cons)

-- a byte inside a reference that was used
pub skip_one : (groups : List (List ℕ)) (template text : List ℕ) (i skip : ℕ) (all : List ℕ) → i < length template → 0 < skip
    → text ++ filled_after groups skip (drop i template) ≡ all → text ++ filled_after groups (skip - 1) (drop (i + 1) template) ≡ all
skip_one groups template text i zero all within some so_far = absurd (omega (arith, some))
skip_one groups template text i (suc skip) all within some so_far =
    let less : suc skip - 1 ≡ skip = omega arith in
    let cons : drop i template ≡ get_or template i 0 ∷ drop (i + 1) template = rw (add-one i) (drop-cons template i 0 within) in
    rw less (ap (λ xs. text ++ filled_after groups (suc skip) xs) (sym cons) ∙ so_far)

step : (groups : List (List ℕ)) (template text : List ℕ) (i b skip : ℕ) (all : List ℕ) → i < length template → b ≡ get_or template i b → skip ≡ 0
    → text ++ filled_after groups skip (drop i template) ≡ all
    → text ++ filled_with groups (λ skip. filled_after groups skip (drop (i + 1) template)) b (drop (i + 1) template) (reference_in b (drop (i + 1) template)) ≡ all
step groups template text i b skip all within is none so_far =
    ap (λ xs. text ++ filled_after groups 0 xs) (sym (item-first template i b within is)) ∙ ap (λ k. text ++ filled_after groups k (drop i template)) (sym none) ∙ so_far

-- a byte that stands for itself
pub one_byte : (groups : List (List ℕ)) (template text : List ℕ) (i b skip : ℕ) (all : List ℕ) → i < length template → b ≡ get_or template i b → skip ≡ 0
    → None ≡ reference_in b (drop (i + 1) template)
    → text ++ filled_after groups skip (drop i template) ≡ all → (text ++ b ∷ []) ++ filled_after groups 0 (drop (i + 1) template) ≡ all
one_byte groups template text i b skip all within is none plain so_far =
    append_assoc text (b ∷ []) (filled_after groups 0 (drop (i + 1) template))
    ∙ ap (λ o. text ++ filled_with groups (λ skip. filled_after groups skip (drop (i + 1) template)) b (drop (i + 1) template) o) plain
    ∙ step groups template text i b skip all within is none so_far

-- a reference
pub one_reference : (groups : List (List ℕ)) (template text : List ℕ) (i b skip digits : ℕ) (all : List ℕ) → i < length template → b ≡ get_or template i b → skip ≡ 0
    → Some digits ≡ reference_in b (drop (i + 1) template)
    → text ++ filled_after groups skip (drop i template) ≡ all
    → (text ++ group_at groups (take digits (drop (i + 1) template))) ++ filled_after groups (digits + 1) (drop (i + 1) template) ≡ all
one_reference groups template text i b skip digits all within is none found so_far =
    append_assoc text (group_at groups (take digits (drop (i + 1) template))) (filled_after groups (digits + 1) (drop (i + 1) template))
    ∙ ap (λ o. text ++ filled_with groups (λ skip. filled_after groups skip (drop (i + 1) template)) b (drop (i + 1) template) o) found
    ∙ step groups template text i b skip all within is none so_far

-- a value that is already past a limit
pub past_limit : (value rest all : List ℕ) (most : ℕ) → value ++ rest ≡ all → most < length value → most < length all
past_limit value rest all most is past = let longer : length all ≡ length value + length rest = ap length (sym is) ∙ length-append value rest in omega (arith, longer, past)
