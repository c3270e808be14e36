-- The pieces that the scanner reads are the reading of the text, and its only one.
use Rattle.std.proofs.Common.{◌≡◌, ℕ, zero, suc, ◌-◌, List, [], ◌∷◌, ◌++◌, refl, sym, ◌∙◌, ap, subst, Option, Some, None, length, drop}
use Rattle.std.proofs.lemmas.Bool.{true≢false}
use Rattle.std.proofs.Math.Seq.{drop-append_seam}
use Rattle.template_text.specs.Pieces.{Reference, variable, call, Pieces, no_more, text, reference, reference_spelling, spelling}
use Rattle.template_text.specs.TemplateGrammar.{Begins, ArePieces, IsReadingOf}
use Rattle.template_text.specs.Scan.{with_byte, table, first_at, pieces_from, reading}
use Rattle.template_text.proofs.Before.{reference-before}
use Rattle.template_text.proofs.Standing.{not_empty}
use Rattle.template_text.proofs.Inside.{StartsWith, none_some, drop_less, drop_nothing, reference_some, starts_drop}
use Rattle.template_text.proofs.Names.{all_sound, all_complete}

pub starts_begins : (s : List ℕ) (r : Reference) → StartsWith s r → Begins s r
starts_begins s r h = record { right = h.right; shallow = h.shallow; rest = h.rest; spelled = h.spelled ∙ sym (reference-before r h.rest) }

pub begins_starts : (s : List ℕ) (r : Reference) → Begins s r → StartsWith s r
begins_starts s r h = record { right = h.right; shallow = h.shallow; rest = h.rest; spelled = h.spelled ∙ reference-before r h.rest }

pub pieces_byte : (c : ℕ) (s : List ℕ) → first_at (c ∷ s) ≡ None → pieces_from (c ∷ s) (table (c ∷ s)) 0 ≡ with_byte c (pieces_from s (table s) 0)
unfolding pieces_from table
pieces_byte c s e = ap (λ q. pieces_from (c ∷ s) (q ∷ table s) 0) e

pub pieces_reference : (c : ℕ) (s : List ℕ) (r : Reference) → first_at (c ∷ s) ≡ Some r
    → pieces_from (c ∷ s) (table (c ∷ s)) 0 ≡ reference r (pieces_from s (table s) (length (reference_spelling r) - 1))
unfolding pieces_from table
pieces_reference c s r e = ap (λ q. pieces_from (c ∷ s) (q ∷ table s) 0) e

pub spelling-with_byte : (c : ℕ) (ps : Pieces) → spelling (with_byte c ps) ≡ c ∷ spelling ps
spelling-with_byte c no_more = refl
spelling-with_byte c (text t m) = refl
spelling-with_byte c (reference r m) = refl

pieces-with_byte : (c : ℕ) (ps : Pieces) → ((r : Reference) → Begins (c ∷ spelling ps) r → ⊥) → ArePieces ps → ArePieces (with_byte c ps)
pieces-with_byte c no_more n h = (record { some = not_empty c []; alone = refl }, (n, tt), tt)
pieces-with_byte c (text t m) n h = (record { some = not_empty c t; alone = h.0.alone }, (n, h.1), h.2)
pieces-with_byte c (reference r m) n h = (record { some = not_empty c []; alone = refl }, (n, tt), h)

read_go : (c : ℕ) (s : List ℕ) (q : Option Reference) → first_at (c ∷ s) ≡ q
    → ((k : ℕ) → ArePieces (pieces_from s (table s) k) × (spelling (pieces_from s (table s) k) ≡ drop k s))
    → ArePieces (pieces_from (c ∷ s) (table (c ∷ s)) 0) × (spelling (pieces_from (c ∷ s) (table (c ∷ s)) 0) ≡ c ∷ s)
read_go c s None e more =
    let ps : Pieces = pieces_from s (table s) 0 in
    let nowhere : (r : Reference) → Begins (c ∷ spelling ps) r → ⊥ =
    λ (r : Reference) (b : Begins (c ∷ spelling ps) r). none_some r (sym e ∙ (all_complete (c ∷ s)).0 r (begins_starts (c ∷ s) r (subst (λ w. Begins (c ∷ w) r) (more 0).1 b))) in (
      subst ArePieces (sym (pieces_byte c s e)) (pieces-with_byte c ps nowhere (more 0).0),
      ap spelling (pieces_byte c s e) ∙ (spelling-with_byte c ps ∙ ap (λ w. c ∷ w) (more 0).1),
    )
read_go c s (Some r) e more =
    let n : ℕ = length (reference_spelling r) in
    let h : StartsWith (c ∷ s) r = (all_sound (c ∷ s)).0 r e in
    let rest : spelling (pieces_from s (table s) (n - 1)) ≡ h.rest = (more (n - 1)).1 ∙ (drop_less n c s (reference_some r) ∙ starts_drop (c ∷ s) r h) in (
      subst ArePieces (sym (pieces_reference c s r e)) (h.right, h.shallow, (more (n - 1)).0),
      ap spelling (pieces_reference c s r e) ∙ (ap (λ w. reference_spelling r ++ w) rest ∙ (reference-before r h.rest ∙ sym h.spelled)),
    )

read_from : (s : List ℕ) (k : ℕ) → ArePieces (pieces_from s (table s) k) × (spelling (pieces_from s (table s) k) ≡ drop k s)
unfolding pieces_from table
read_from [] k = (tt, sym (drop_nothing k))
read_from (c ∷ s) (suc k) = read_from s k
read_from (c ∷ s) zero = read_go c s (first_at (c ∷ s)) refl (read_from s)

-- every text has a reading
pub reading_is : (s : List ℕ) → IsReadingOf s (reading s)
reading_is s = let h : ArePieces (reading s) × (spelling (reading s) ≡ s) = read_from s 0 in record { pieces = h.0; spelled = h.1 }

reference_not_nothing : (r : Reference) (u : List ℕ) → reference_spelling r ++ u ≡ [] → ⊥
reference_not_nothing (variable n) u e = not_empty _ _ e
reference_not_nothing (call n args) u e = not_empty _ _ e

abbrev Rest : List ℕ → Type 0
Rest s = (k : ℕ) (ps : Pieces) → ArePieces ps → spelling ps ≡ drop k s → ps ≡ pieces_from s (table s) k

head_same : (c d : ℕ) (s u : List ℕ) → c ∷ s ≡ d ∷ u → c ≡ d
head_same c d s u e = cc

tail_too : (c d : ℕ) (s u : List ℕ) → c ∷ s ≡ d ∷ u → s ≡ u
tail_too c d s u e = cc

no_reference : (c : ℕ) (s : List ℕ) (q : Option Reference) → first_at (c ∷ s) ≡ q → ((r : Reference) → Begins (c ∷ s) r → ⊥) → first_at (c ∷ s) ≡ None
no_reference c s None e h = e
no_reference c s (Some r) e h = absurd (h r (starts_begins (c ∷ s) r ((all_sound (c ∷ s)).0 r e)))

only_text : (c d : ℕ) (s t : List ℕ) (m : Pieces) → ArePieces (text (d ∷ t) m) → spelling (text (d ∷ t) m) ≡ c ∷ s → Rest s → (ps : Pieces) → ArePieces ps → spelling ps ≡ s
    → with_byte d ps ≡ text (d ∷ t) m → text (d ∷ t) m ≡ pieces_from (c ∷ s) (table (c ∷ s)) 0
only_text c d s t m h e rest ps right spelled back =
    let same : d ≡ c = head_same d c (t ++ spelling m) s e in
    let nowhere : (r : Reference) → Begins (c ∷ s) r → ⊥ = λ (r : Reference) (b : Begins (c ∷ s) r). h.1.0 r (subst (λ w. Begins w r) (sym e) b) in
    sym back ∙ (ap (λ w. with_byte w ps) same ∙ (ap (with_byte c) (rest 0 ps right spelled) ∙ sym (pieces_byte c s (no_reference c s (first_at (c ∷ s)) refl nowhere))))

only_here : (c : ℕ) (s : List ℕ) (ps : Pieces) → ArePieces ps → spelling ps ≡ c ∷ s → Rest s → ps ≡ pieces_from (c ∷ s) (table (c ∷ s)) 0
only_here c s no_more h e rest = absurd (not_empty c s (sym e))
only_here c s (text [] m) h e rest = absurd (h.0.some refl)
only_here c s (text (d ∷ []) no_more) h e rest = only_text c d s [] no_more h e rest no_more tt (tail_too d c [] s e) refl
only_here c s (text (d ∷ []) (text u m)) h e rest = absurd (true≢false h.0.alone)
only_here c s (text (d ∷ []) (reference r m)) h e rest = only_text c d s [] (reference r m) h e rest (reference r m) h.2 (tail_too d c (spelling (reference r m)) s e) refl
only_here c s (text (d ∷ f ∷ t) m) h e rest =
    only_text c d s (f ∷ t) m h e rest (text (f ∷ t) m) (record { some = not_empty f t; alone = h.0.alone }, h.1.1, h.2) (tail_too d c (spelling (text (f ∷ t) m)) s e) refl
only_here c s (reference r m) h e rest =
    let n : ℕ = length (reference_spelling r) in
    let b : Begins (c ∷ s) r = record { right = h.0; shallow = h.1; rest = spelling m; spelled = sym e } in
    let first : first_at (c ∷ s) ≡ Some r = (all_complete (c ∷ s)).0 r (begins_starts (c ∷ s) r b) in
    let after : spelling m ≡ drop (n - 1) s = sym (drop-append_seam (reference_spelling r) (spelling m)) ∙ (ap (drop n) e ∙ sym (drop_less n c s (reference_some r))) in
    ap (reference r) (rest (n - 1) m h.2 after) ∙ sym (pieces_reference c s r first)

only_nothing : (ps : Pieces) → ArePieces ps → spelling ps ≡ [] → ps ≡ no_more
only_nothing no_more h e = refl
only_nothing (text [] m) h e = absurd (h.0.some refl)
only_nothing (text (d ∷ t) m) h e = absurd (not_empty d (t ++ spelling m) e)
only_nothing (reference r m) h e = absurd (reference_not_nothing r (spelling m) e)

only_from : (s : List ℕ) → Rest s
unfolding pieces_from table
only_from [] k ps h e = only_nothing ps h (e ∙ drop_nothing k)
only_from (c ∷ s) (suc k) ps h e = only_from s k ps h e
only_from (c ∷ s) zero ps h e = only_here c s ps h e (only_from s)

-- no text has a second reading
pub reading_only : (s : List ℕ) (ps : Pieces) → IsReadingOf s ps → ps ≡ reading s
reading_only s ps h = only_from s 0 ps h.pieces h.spelled
