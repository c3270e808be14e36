-- The reference that begins a text, by its name and what follows the name.
use Rattle.std.proofs.Common.{◌≡◌, ℕ, zero, suc, ◌<◌, ◌≤◌, List, [], ◌∷◌, ◌==◌, if◌then◌else◌, refl, sym, ◌∙◌, ap, true, false, Option, None, length, take, drop, get_or, set, map, option_map, arith}
use Rattle.std.proofs.lemmas.Bool.{true≢false}
use Rattle.std.proofs.Math.Seq.{drop-length}
use Rattle.template_text.specs.declared.scan.Found.{Found}
use Rattle.template_text.specs.TemplateGrammar.{begins_with, opens}
use Rattle.template_text.specs.Scan.{table, first_of, first_at, arguments_at, name_length, named, call_of, shape, AreFound}
use Rattle.template_text.proofs.Tokens.{and_first}
use Rattle.template_text.proofs.Names.{table_drop}
use Rattle.template_text.proofs.Extents.{first_none}

pub named_at_call : (n s : List ℕ) → 0 < length s → get_or s 0 0 ≡ 40 → named n s (table s) ≡ call_of n (arguments_at (drop 1 s) 0)
unfolding table
named_at_call n [] h e = absurd (omega arith)
named_at_call n (c ∷ s) h e = ap (λ w. named n (w ∷ s) (first_of (w ∷ s) (table s) ∷ table s)) e

pub first_not_opens : (s : List ℕ) → opens s ≡ false → first_at s ≡ None
first_not_opens [] e = refl
first_not_opens (c ∷ s) e = first_none c s e

follows_length : (s : List ℕ) (b : ℕ) → begins_with b s ≡ true → 1 ≤ length s
follows_length [] b e = absurd (true≢false (sym e))
follows_length (c ∷ s) b e = omega arith

pub opens_length : (s : List ℕ) → opens s ≡ true → 2 ≤ length s
opens_length [] e = absurd (true≢false (sym e))
opens_length (c ∷ s) e = omega (arith, follows_length s 123 (and_first (c == 36) (begins_with 123 s) e).1)

opened : (s : List ℕ) (n : ℕ) → drop n (drop 1 (table s)) ≡ table (drop n (drop 1 s))
opened s n = ap (drop n) (table_drop 1 s) ∙ table_drop n (drop 1 s)

pub first_opened : (s : List ℕ) → opens s ≡ true
    → first_at s ≡ named (take (name_length (drop 2 s)) (drop 2 s)) (drop (name_length (drop 2 s)) (drop 2 s)) (table (drop (name_length (drop 2 s)) (drop 2 s)))
unfolding first_of
first_opened [] e = absurd (true≢false (sym e))
first_opened (c ∷ s) e =
    let n : ℕ = name_length (drop 1 s) in
    ap (λ b. if b then named (take n (drop 1 s)) (drop n (drop 1 s)) (drop n (drop 1 (table s))) else None) e
    ∙ ap (named (take n (drop 1 s)) (drop n (drop 1 s))) (opened s n)

-- one place more, on the left
pub place_more : (s : List ℕ) (f : List (Option Found)) (a : ℕ) (x : Option Found) → a < length s → length f ≡ length s → AreFound (drop (suc a) s) (drop (suc a) f)
    → x ≡ option_map shape (first_at (drop a s)) → AreFound (drop a s) (drop a (set f a x))
unfolding table
place_more [] f a x h l e g = absurd (omega arith)
place_more (c ∷ s) [] a x h l e g = absurd (omega arith)
place_more (c ∷ s) (y ∷ f) zero x h l e g = ap (λ w. w ∷ f) g ∙ ap (λ w. option_map shape (first_at (c ∷ s)) ∷ w) e
place_more (c ∷ s) (y ∷ f) (suc a) x h l e g = place_more s f a x (omega arith) (omega arith) e g

-- no place is left after the end
pub place_none : (s : List ℕ) (f : List (Option Found)) → length f ≡ length s → AreFound (drop (length s) s) (drop (length s) f)
unfolding table
place_none s f e = ap (λ n. drop n f) (sym e) ∙ (drop-length f ∙ sym (ap (λ w. map (option_map shape) (table w)) (drop-length s)))
