-- Each event leaves the numbers of a core in their ranges.
use Rattle.std.proofs.Common.{◌≡◌, ◌≢◌, ℕ, zero, suc, ◌+◌, ◌%◌, ◌<◌, ◌≤◌, ◌==◌, Bool, true, false, ltb, List, [], ◌∷◌, ◌++◌, length, get_or, set, take, sym, refl, ap, ◌∙◌, subst, arith, Some, None, Option, length-set, length-append, true≢false, eq-eqb}
use Rattle.phaser_core.specs.declared.view.Numbers.{Numbers}
use Rattle.phaser_core.specs.declared.view.Stage.TheVariants.{Out, In, On}
use Rattle.phaser_core.specs.declared.view.ReporterStage.{ReporterStage}
use Rattle.phaser_core.specs.declared.view.ReporterStage.TheVariants.{Idle, Swapped, Cleared, Waiting, Harvest}
use Rattle.phaser_core.specs.declared.view.Event.{Event}
use Rattle.phaser_core.specs.declared.view.Event.TheVariants as event
use Rattle.phaser_core.specs.declared.step.Change.TheVariants.{Swap}
use Rattle.phaser_core.specs.declared.step.Step.{Step}
use Rattle.phaser_core.specs.declared.writer.WriterState.{WriterState}
use Rattle.phaser_core.specs.declared.writer.WriterState.TheVariants.{Live, Gone}
use Rattle.phaser_core.specs.Cells.{table_cells, vacant, cell_at}
use Rattle.phaser_core.specs.Views.{pending, taken_count}
use Rattle.phaser_core.specs.Invariant.{InTable}
use Rattle.phaser_core.specs.Plain.{changed, writer_step, writer_at, writer_after, words_after, writers_after, step_if, closing_step, closing_if, Parts, with_closing, gathered_parts_if, looked, look_parts, with_taken, take_words, take_parts, split_if, split_of, gone_if, FitsWriter, AllFitWriters, FitsParts, IsCoherent}
use Rattle.phaser_core.proofs.Plains.{fits_set, fits_snoc, step_fits, less}

-- a slice of a `Vec` that was written as a whole
pub take_front : {A : Type 0} (len : ℕ) (new rest : List A) → len ≡ length new → take len (new ++ rest) ≡ new
take_front zero [] rest e = refl
take_front zero (x ∷ xs) rest e = absurd (omega arith)
take_front (suc len) [] rest e = absurd (omega arith)
take_front (suc len) (x ∷ xs) rest e = ap (λ l. x ∷ l) (take_front len xs rest (omega arith))

-- a writer that may not be there
fits_or : (n : Numbers) (ws : List WriterState) (i : ℕ) → AllFitWriters n ws → FitsWriter n (writer_at ws i)
fits_or n [] i h = tt
fits_or n (w ∷ ws) zero h = h.0
fits_or n (w ∷ ws) (suc i) h = fits_or n ws i h.1

writer_fits : (n : Numbers) (ws : List ℕ) (wr : List WriterState) (e : Event) (i : ℕ) (o : Option Step) → o ≡ writer_step n e (writer_at wr i) → AllFitWriters n wr → AllFitWriters n (writers_after o e i ws wr)
writer_fits n ws wr e i None is h = h
writer_fits n ws wr e i (Some s) is h = fits_set n wr i (writer_after e (get_or ws s.word 0) (writer_at wr i)) h (step_fits n e (get_or ws s.word 0) (writer_at wr i) s (sym is) (fits_or n wr i h))

words_long : (ws : List ℕ) (o : Option Step) → length (words_after o ws) ≡ length ws
words_long ws None = refl
words_long ws (Some s) = length-set ws s.word (changed s.change (get_or ws s.word 0))

pub writer_coherent : (n : Numbers) (ws : List ℕ) (wr : List WriterState) (p : Parts) (e : Event) (i : ℕ) → IsCoherent n ws wr p → IsCoherent n (words_after (writer_step n e (writer_at wr i)) ws) (writers_after (writer_step n e (writer_at wr i)) e i ws wr) p
writer_coherent n ws wr p e i h = record { sized = h.sized; wide = words_long ws (writer_step n e (writer_at wr i)) ∙ h.wide; fit = writer_fits n ws wr e i (writer_step n e (writer_at wr i)) refl h.fit; parts = h.parts }

-- The reporter's part

closing_fits : (labels interval : ℕ) (ws : List ℕ) (e : Event) (c : ReporterStage) (taken : List ℕ) → interval + pending c ≤ 16777216 → InTable (table_cells labels) c → length taken ≡ taken_count c
    → (interval + pending (closing_if (closing_step interval e c) e ws c) ≤ 16777216) × InTable (table_cells labels) (closing_if (closing_step interval e c) e ws c) × (length taken ≡ taken_count (closing_if (closing_step interval e c) e ws c))
closing_fits labels interval ws event.SwapActive Idle taken r t k = swap_fits (ltb interval 16777216) refl where
  swap_fits : (b : Bool) → ltb interval 16777216 ≡ b → (interval + pending (closing_if (step_if b 0 (Swap (interval + 1))) event.SwapActive ws Idle) ≤ 16777216) × InTable (table_cells labels) (closing_if (step_if b 0 (Swap (interval + 1))) event.SwapActive ws Idle) × (length taken ≡ taken_count (closing_if (step_if b 0 (Swap (interval + 1))) event.SwapActive ws Idle))
  swap_fits true is = (let l = less interval 16777216 is in omega arith, tt, k)
  swap_fits false is = (r, tt, k)
closing_fits labels interval ws event.ReporterStop Idle taken r t k = (r, tt, k)
closing_fits labels interval ws event.ClearEnd Swapped taken r t k = (r, tt, k)
closing_fits labels interval ws event.Flip Cleared taken r t k = (r, tt, k)
closing_fits labels interval ws e c taken r t k = (r, t, k)

pub reporter_coherent : (n : Numbers) (ws : List ℕ) (wr : List WriterState) (p : Parts) (e : Event) → IsCoherent n ws wr p → IsCoherent n (words_after (closing_step p.interval e p.closing) ws) wr (with_closing p (closing_if (closing_step p.interval e p.closing) e ws p.closing))
reporter_coherent n ws wr p e h =
    let f = closing_fits n.labels p.interval ws e p.closing p.taken h.parts.room h.parts.in_table h.parts.count in
    record { sized = h.sized; wide = words_long ws (closing_step p.interval e p.closing) ∙ h.wide; fit = h.fit; parts = record { room = f.0; in_table = f.1; count = f.2 } }

not_eqb : (a b : ℕ) → (a == b) ≡ false → a ≢ b
not_eqb a b f e = true≢false (sym (eq-eqb a b e) ∙ f)

below : (a b : ℕ) → a ≤ b → a ≢ b → a < b
below a b le ne = omega arith

gathered_fits : (labels j : ℕ) (p : Parts) (b : Bool) → (j == table_cells labels) ≡ b → p.interval + 1 ≤ 16777216 → j ≤ table_cells labels → length p.taken ≡ j → FitsParts labels (gathered_parts_if b labels j p)
gathered_fits labels j p true is room most count = record { room = omega arith; in_table = tt; count = refl }
gathered_fits labels j p false is room most count = record { room = room; in_table = below j (table_cells labels) most (not_eqb j (table_cells labels) is); count = count }

looked_fits : (labels : ℕ) (p : Parts) (want : ℕ) (b : Bool) → p.closing ≡ Waiting want → FitsParts labels p → FitsParts labels (looked b labels p)
looked_fits labels p want true is h =
    let room : p.interval + 1 ≤ 16777216 = subst (λ (c : ReporterStage). p.interval + pending c ≤ 16777216) is h.room in
    gathered_fits labels 0 (with_taken p []) (0 == table_cells labels) refl room (omega arith) refl
looked_fits labels p want false is h = h

look_fits : (labels found : ℕ) (p : Parts) (c : ReporterStage) → p.closing ≡ c → FitsParts labels p → FitsParts labels (look_parts c found labels p)
look_fits labels found p Idle is h = h
look_fits labels found p Swapped is h = h
look_fits labels found p Cleared is h = h
look_fits labels found p (Waiting want) is h = looked_fits labels p want (found == want) is h
look_fits labels found p (Harvest j) is h = h

pub look_coherent : (n : Numbers) (ws : List ℕ) (wr : List WriterState) (p : Parts) (found : ℕ) → IsCoherent n ws wr p → IsCoherent n ws wr (look_parts p.closing found n.labels p)
look_coherent n ws wr p found h = record { sized = h.sized; wide = h.wide; fit = h.fit; parts = look_fits n.labels found p p.closing refl h.parts }

take_fits : (labels : ℕ) (ws : List ℕ) (p : Parts) (c : ReporterStage) → p.closing ≡ c → FitsParts labels p → FitsParts labels (take_parts c labels ws p)
take_fits labels ws p Idle is h = h
take_fits labels ws p Swapped is h = h
take_fits labels ws p Cleared is h = h
take_fits labels ws p (Waiting want) is h = h
take_fits labels ws p (Harvest j) is h =
    let found : ℕ = get_or ws (cell_at labels p.interval j) 0 in
    let more : length (p.taken ++ found ∷ []) ≡ length p.taken + 1 = length-append p.taken (found ∷ []) in
    let count : length p.taken ≡ j = h.count ∙ ap taken_count is in let low : j < table_cells labels = subst (InTable (table_cells labels)) is h.in_table in
    let room : p.interval + 1 ≤ 16777216 = subst (λ (c : ReporterStage). p.interval + pending c ≤ 16777216) is h.room in
    gathered_fits labels (j + 1) (with_taken p (p.taken ++ found ∷ [])) (j + 1 == table_cells labels) refl room (omega arith) (omega arith)

take_long : (labels : ℕ) (ws : List ℕ) (p : Parts) (c : ReporterStage) → length (take_words c labels ws p) ≡ length ws
take_long labels ws p Idle = refl
take_long labels ws p Swapped = refl
take_long labels ws p Cleared = refl
take_long labels ws p (Waiting want) = refl
take_long labels ws p (Harvest j) = length-set ws (cell_at labels p.interval j) (vacant (j % 6))

pub take_coherent : (n : Numbers) (ws : List ℕ) (wr : List WriterState) (p : Parts) → IsCoherent n ws wr p → IsCoherent n (take_words p.closing n.labels ws p) wr (take_parts p.closing n.labels ws p)
take_coherent n ws wr p h = record { sized = h.sized; wide = take_long n.labels ws p p.closing ∙ h.wide; fit = h.fit; parts = take_fits n.labels ws p p.closing refl h.parts }

-- The same of `Vec`s that were written through their slices

pub writer_kept : (n : Numbers) (ws slice new rest : List ℕ) (wr slice' new' rest' : List WriterState) (p : Parts) (e : Event) (i len len' : ℕ) → IsCoherent n ws wr p → slice ≡ ws → slice' ≡ wr
    → new ≡ words_after (writer_step n e (writer_at slice' i)) slice → new' ≡ writers_after (writer_step n e (writer_at slice' i)) e i slice slice' → len ≡ length new → len' ≡ length new' → IsCoherent n (take len (new ++ rest)) (take len' (new' ++ rest')) p
writer_kept n ws slice new rest wr slice' new' rest' p e i len len' h s s' m m' l l' =
    let words : words_after (writer_step n e (writer_at wr i)) ws ≡ take len (new ++ rest) = sym (take_front len new rest l ∙ m ∙ (λ t. words_after (writer_step n e (writer_at (s' t) i)) (s t))) in
    let writers : writers_after (writer_step n e (writer_at wr i)) e i ws wr ≡ take len' (new' ++ rest') = sym (take_front len' new' rest' l' ∙ m' ∙ (λ t. writers_after (writer_step n e (writer_at (s' t) i)) e i (s t) (s' t))) in
    subst (λ (z : List ℕ × List WriterState). IsCoherent n z.0 z.1 p) (λ t. (words t, writers t)) (writer_coherent n ws wr p e i h)

pub reporter_kept : (n : Numbers) (ws slice new rest : List ℕ) (wr : List WriterState) (p q : Parts) (e : Event) (len : ℕ) → IsCoherent n ws wr p → slice ≡ ws → new ≡ words_after (closing_step p.interval e p.closing) slice
    → q ≡ with_closing p (closing_if (closing_step p.interval e p.closing) e slice p.closing) → len ≡ length new → IsCoherent n (take len (new ++ rest)) wr q
reporter_kept n ws slice new rest wr p q e len h s m k l =
    let words : words_after (closing_step p.interval e p.closing) ws ≡ take len (new ++ rest) = sym (take_front len new rest l ∙ m ∙ ap (words_after (closing_step p.interval e p.closing)) s) in
    let parts : with_closing p (closing_if (closing_step p.interval e p.closing) e ws p.closing) ≡ q = sym (k ∙ ap (λ (z : List ℕ). with_closing p (closing_if (closing_step p.interval e p.closing) e z p.closing)) s) in
    subst (λ (z : List ℕ × Parts). IsCoherent n z.0 wr z.1) (λ t. (words t, parts t)) (reporter_coherent n ws wr p e h)

-- A further writer, and one that is joined

split_stage_fits : (n : Numbers) (number entries made : ℕ) (b : Bool) (l r : WriterState) → split_if b number entries made ≡ Some (l, r) → entries + 0 ≤ n.budget → FitsWriter n l × FitsWriter n r
split_stage_fits n number entries made true l r h f =
    let e : (Live number Out entries (made + 1), Live made Out 0 0) ≡ (l, r) = cc in
    subst (λ (z : WriterState × WriterState). FitsWriter n z.0 × FitsWriter n z.1) e ((tt, f), (tt, omega arith))
split_stage_fits n number entries made false l r h f = absurd cc

split_fits : (n : Numbers) (w l r : WriterState) → split_of n w ≡ Some (l, r) → FitsWriter n w → FitsWriter n l × FitsWriter n r
split_fits n (Live number Out entries made) l r h f = split_stage_fits n number entries made (ltb made n.writers) l r h f.1
split_fits n (Live number (In p) entries made) l r h f = absurd cc
split_fits n (Live number (On p m e d) entries made) l r h f = absurd cc
split_fits n Gone l r h f = absurd cc

pub split_kept : (n : Numbers) (ws : List ℕ) (wr more : List WriterState) (p : Parts) (w l r : WriterState) → IsCoherent n ws wr p → w ≡ writer_at wr 0 → split_of n w ≡ Some (l, r) → more ≡ wr ++ r ∷ [] → IsCoherent n ws (set more 0 l) p
split_kept n ws wr more p w l r h is s m =
    let f = split_fits n w l r s (subst (FitsWriter n) (sym is) (fits_or n wr 0 h.fit)) in
    record { sized = h.sized; wide = h.wide; parts = h.parts; fit = fits_set n more 0 l (subst (AllFitWriters n) (sym m) (fits_snoc n wr r h.fit f.1)) f.0 }

join_fits : (n : Numbers) (wr : List WriterState) (i : ℕ) (b : Bool) → AllFitWriters n wr → AllFitWriters n (gone_if b i wr)
join_fits n wr i true h = fits_set n wr i Gone h tt
join_fits n wr i false h = h

pub join_kept : (n : Numbers) (ws : List ℕ) (wr slice new rest : List WriterState) (p : Parts) (i len : ℕ) (b : Bool) → IsCoherent n ws wr p → slice ≡ wr → new ≡ gone_if b i slice → len ≡ length new → IsCoherent n ws (take len (new ++ rest)) p
join_kept n ws wr slice new rest p i len b h s m l =
    record { sized = h.sized; wide = h.wide; parts = h.parts; fit = subst (AllFitWriters n) (sym (take_front len new rest l ∙ m ∙ ap (gone_if b i) s)) (join_fits n wr i b h.fit) }
