-- Texts that go out one after the other.
use Rattle.std.proofs.Common.{◌≡◌, ℕ, ◌+◌, List, [], ◌++◌, length, take, drop, Option, arith, refl, sym, ap, ◌∙◌, append_assoc, length-append, subst}
use Rattle.std.proofs.lemmas.List.{append-nil, take_at, take-append-le}
use Rattle.std.proofs.Math.Seq.{take-add, drop-append_seam}
use Rattle.std.specs.Io.KnownBytes.{Appends}
use Rattle.edge_io.specs.Edges.{AppendsProperPrefix}
use Rattle.edge_io.proofs.EdgeLaws.{Appends-nil, Appends-append}
use Rattle.line_output.specs.OutputPieces.{Moves, MovesPart, AppendsPart}

-- ---- one text after another

-- a text is held back after what was
pub moves_held : (a : Option (List ℕ)) (held text : List ℕ) → Moves a a held (held ++ text) text
moves_held a held text = ([], Appends-nil a, refl)

-- what was held back goes out, and the text is held back
pub moves_after : (a b : Option (List ℕ)) (held text : List ℕ) → Appends a b held → Moves a b held text text
moves_after a b held text out = (held, out, refl)

-- what was held back goes out, and then the text
pub moves_out : (a b c : Option (List ℕ)) (held text : List ℕ) → Appends a b held → Appends b c text → Moves a c held [] text
moves_out a b c held text out more = (held ++ text, Appends-append a b c held text out more, append-nil (held ++ text))

-- nothing moves
pub moves_none : (a : Option (List ℕ)) (held : List ℕ) → Moves a a held held []
moves_none a held = ([], Appends-nil a, sym (append-nil held))

two_texts : (held holds now s t out more : List ℕ) → out ++ holds ≡ held ++ s → more ++ now ≡ holds ++ t → (out ++ more) ++ now ≡ held ++ (s ++ t)
two_texts held holds now s t out more e f =
    append_assoc out more now ∙ (ap (λ l. out ++ l) f ∙ (sym (append_assoc out holds t) ∙ (ap (λ l. l ++ t) e ∙ append_assoc held s t)))

-- one text and then another
pub moves_more : (a b c : Option (List ℕ)) (held holds now s t : List ℕ) → Moves a b held holds s → Moves b c holds now t → Moves a c held now (s ++ t)
moves_more a b c held holds now s t m n = (m.0 ++ n.0, Appends-append a b c m.0 n.0 m.1 n.1, two_texts held holds now s t m.0 n.0 m.2 n.2)

-- ---- a prefix

take_past : (xs ys : List ℕ) (n : ℕ) → take (length xs + n) (xs ++ ys) ≡ xs ++ take n ys
take_past xs ys n = take-add (length xs) n (xs ++ ys) ∙ (ap (λ l. l ++ take n (drop (length xs) (xs ++ ys))) (take_at xs ys (length xs) refl) ∙ ap (λ l. xs ++ take n l) (drop-append_seam xs ys))

-- a prefix of a text is one of a longer text
pub front_wider : (a b : Option (List ℕ)) (s t : List ℕ) → AppendsProperPrefix a b s → AppendsProperPrefix a b (s ++ t)
front_wider a b s t f = (f.0, omega (arith, f.1, length-append s t), subst (λ l. Appends a b l) (sym (take-append-le f.0 s t (omega (arith, f.1)))) f.2)

-- a text, and then a prefix of another
pub front_after : (a b c : Option (List ℕ)) (s t : List ℕ) → Appends a b s → AppendsProperPrefix b c t → AppendsProperPrefix a c (s ++ t)
front_after a b c s t out f =
    (length s + f.0, omega (arith, f.1, length-append s t), subst (λ l. Appends a c l) (sym (take_past s t f.0)) (Appends-append a b c s (take f.0 t) out f.2))

-- after a text that has moved, a prefix of what is still held back and of one more text
pub front_more : (a b c : Option (List ℕ)) (held holds s t : List ℕ) → Moves a b held holds s → AppendsProperPrefix b c (holds ++ t) → AppendsProperPrefix a c (held ++ (s ++ t))
front_more a b c held holds s t m f =
    subst (λ l. AppendsProperPrefix a c l) (sym (append_assoc m.0 holds t) ∙ (ap (λ l. l ++ t) m.2 ∙ append_assoc held s t)) (front_after a b c m.0 (holds ++ t) m.1 f)

-- ---- to the end

-- what was still held back goes out
pub all_sent : (a b c : Option (List ℕ)) (holds s : List ℕ) → Moves a b [] holds s → Appends b c holds → Appends a c s
all_sent a b c holds s m out = subst (λ l. Appends a c l) m.2 (Appends-append a b c m.0 holds m.1 out)

-- a prefix of what was still held back goes out
pub front_sent : (a b c : Option (List ℕ)) (holds s : List ℕ) → Moves a b [] holds s → AppendsProperPrefix b c holds → AppendsProperPrefix a c s
front_sent a b c holds s m f = subst (λ l. AppendsProperPrefix a c l) m.2 (front_after a b c m.0 holds m.1 f)

-- what is held back is given up, with what was not put
pub part_sent : (a b : Option (List ℕ)) (holds t : List ℕ) → MovesPart a b [] holds t → AppendsPart a b t
part_sent a b holds t p = (p.3.0, holds ++ p.1, p.2 ∙ (ap (λ l. l ++ p.1) (sym p.3.2) ∙ append_assoc p.3.0 holds p.1), p.3.1)

-- ---- a prefix of a text

-- nothing of the text
pub part_none : (a : Option (List ℕ)) (held t : List ℕ) → MovesPart a a held held t
part_none a held t = ([], t, refl, moves_none a held)

-- a text and then a prefix of another, before one more
pub part_more : (a b c : Option (List ℕ)) (held holds now s t u : List ℕ) → Moves a b held holds s → MovesPart b c holds now t → MovesPart a c held now (s ++ (t ++ u))
part_more a b c held holds now s t u m p = (
  s ++ p.0,
  p.1 ++ u,
  ap (λ l. s ++ (l ++ u)) p.2 ∙ (ap (λ l. s ++ l) (append_assoc p.0 p.1 u) ∙ sym (append_assoc s p.0 (p.1 ++ u))),
  moves_more a b c held holds now s p.0 m p.3,
)
