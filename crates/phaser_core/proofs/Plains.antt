-- The steps on what the core keeps: each finds its word, and leaves the numbers in their ranges.
use Rattle.std.proofs.Common.{◌≡◌, ℕ, zero, suc, ◌+◌, ◌*◌, ◌%◌, ◌<◌, ◌≤◌, ◌==◌, not, Bool, true, false, ltb, List, [], ◌∷◌, ◌++◌, length, get_or, set, sym, refl, ap, ◌∙◌, subst, arith, Some, Option}
use Rattle.std.proofs.lemmas.Bool.{eqb-true}
use Rattle.std.proofs.lemmas.Bool.Decides.{nat_tests}
use Rattle.jm_base.specs.declared.types.Entry.{Entry}
use Rattle.jm_base.specs.SumTotals.{one_if}
use Rattle.phaser_core.specs.declared.view.Numbers.{Numbers}
use Rattle.phaser_core.specs.declared.view.Stage.{Stage}
use Rattle.phaser_core.specs.declared.view.Stage.TheVariants.{Out, In, On}
use Rattle.phaser_core.specs.declared.view.Event.{Event}
use Rattle.phaser_core.specs.declared.view.Event.TheVariants as event
use Rattle.phaser_core.specs.declared.step.Change.{Change}
use Rattle.phaser_core.specs.declared.step.Change.TheVariants.{Load, Add, Swap}
use Rattle.phaser_core.specs.declared.step.Step.{Step}
use Rattle.phaser_core.specs.declared.writer.WriterState.{WriterState}
use Rattle.phaser_core.specs.declared.writer.WriterState.TheVariants.{Live, Gone}
use Rattle.phaser_core.specs.Cells.{end_at, place, row_at, column, sums, word_count}
use Rattle.phaser_core.specs.Views.{busy}
use Rattle.phaser_core.specs.Plain.{step_if, cell_change, cell_step, out_step, in_step, on_step, stage_step, writer_step, stage_after, entries_after, writer_after, FitsStage, FitsWriter, AllFitWriters}
use Rattle.phaser_core.proofs.PhaseSteps.{end_low}
use Rattle.phaser_core.proofs.CellSteps.{place_cell, cell_in, place_in, column_low}

-- Lists of writers

pub fits_at : (n : Numbers) (ws : List WriterState) (i : ℕ) (d : WriterState) → AllFitWriters n ws → i < length ws → FitsWriter n (get_or ws i d)
fits_at n [] i d h lt = absurd (omega arith)
fits_at n (w ∷ ws) zero d h lt = h.0
fits_at n (w ∷ ws) (suc i) d h lt = fits_at n ws i d h.1 (omega arith)

pub fits_set : (n : Numbers) (ws : List WriterState) (i : ℕ) (w : WriterState) → AllFitWriters n ws → FitsWriter n w → AllFitWriters n (set ws i w)
fits_set n [] i w h k = tt
fits_set n (x ∷ ws) zero w h k = (k, h.1)
fits_set n (x ∷ ws) (suc i) w h k = (h.0, fits_set n ws i w h.1 k)

pub fits_snoc : (n : Numbers) (ws : List WriterState) (w : WriterState) → AllFitWriters n ws → FitsWriter n w → AllFitWriters n (ws ++ w ∷ [])
fits_snoc n [] w h k = (k, tt)
fits_snoc n (x ∷ ws) w h k = (h.0, fits_snoc n ws w h.1 k)

-- A step that is there

pub step_is : (b : Bool) (word : ℕ) (c : Change) (s : Step) → step_if b word c ≡ Some s → (b ≡ true) × (word ≡ s.word) × (c ≡ s.change)
step_is true word c s h = let e : record { word = word; change = c } ≡ s = cc in (refl, ap (λ (x : Step). x.word) e, ap (λ (x : Step). x.change) e)
step_is false word c s h = absurd cc

pub less : (a b : ℕ) → ltb a b ≡ true → a < b
less a b h = grind (arith, nat_tests)

cell_low : (labels m w l c : ℕ) → l < labels → c < 6 → place labels (m % 2) w l c < word_count labels
cell_low labels m w l c h k = let n : Numbers = record { labels = labels; writers = 0; budget = 0 } in
    let e = place_cell labels m w l c in let p = place_in n m (6 * row_at labels w l + c) (cell_in labels w l c h k) in omega arith

cell_step_low : (labels number m : ℕ) (x : Entry) (d : ℕ) (b : Bool) (s : Step) → cell_step labels number m x d b ≡ Some s → x.label < labels → d < sums x → s.word < word_count labels
cell_step_low labels number m x d b s h label low =
    let i = step_is b (place labels (m % 2) number x.label (column x d)) (cell_change (column x d) x) s h in
    let c = cell_low labels m number x.label (column x d) label (column_low (not x.ok) d low) in
    subst (λ (w : ℕ). w < word_count labels) i.1 c

out_low : (n : Numbers) (entries : ℕ) (e : Event) (s : Step) → out_step n.budget entries e ≡ Some s → s.word < word_count n.labels
out_low n entries (event.Enter x) s h = let i = step_is (ltb entries n.budget) 1 (Add 1) s h in let w = i.1 in omega arith
out_low n entries (event.LookStop x) s h = let i = step_is true 4 Load s h in let w = i.1 in omega arith
out_low n entries (event.RaiseStop x) s h = let i = step_is true 4 (Swap 1) s h in let w = i.1 in omega arith
out_low n entries e s h = absurd cc

in_low : (n : Numbers) (e : Event) (s : Step) → in_step n.labels e ≡ Some s → s.word < word_count n.labels
in_low n (event.Load x e) s h = let i = step_is (ltb e.label n.labels) 0 Load s h in let w = i.1 in omega arith
in_low n e s h = absurd cc

on_low : (n : Numbers) (number : ℕ) (p : Bool) (m : ℕ) (x : Entry) (d : ℕ) (e : Event) (s : Step) → on_step n.labels number p m x d e ≡ Some s → x.label < n.labels → s.word < word_count n.labels
on_low n number p m x d (event.Add w) s h label =
    let i = step_is (ltb d (3 + one_if (not x.ok))) (place n.labels (m % 2) number x.label (column x d)) (cell_change (column x d) x) s h in
    let l = less d (3 + one_if (not x.ok)) i.0 in cell_step_low n.labels number m x d (ltb d (3 + one_if (not x.ok))) s h label (omega arith)
on_low n number p m x d (event.Lower w) s h label =
    let i = step_is (d == 3 + one_if (not x.ok)) (place n.labels (m % 2) number x.label (column x d)) (cell_change (column x d) x) s h in
    let l = eqb-true d (3 + one_if (not x.ok)) i.0 in cell_step_low n.labels number m x d (d == 3 + one_if (not x.ok)) s h label (omega arith)
on_low n number p m x d (event.Raise w) s h label =
    let i = step_is (d == 4 + one_if (not x.ok)) (place n.labels (m % 2) number x.label (column x d)) (cell_change (column x d) x) s h in
    let l = eqb-true d (4 + one_if (not x.ok)) i.0 in cell_step_low n.labels number m x d (d == 4 + one_if (not x.ok)) s h label (omega arith)
on_low n number p m x d (event.Exit w) s h label = let i = step_is (d == sums x) (end_at p) (Add 1) s h in let a = i.1 in let l = end_low p in omega arith
on_low n number p m x d e s h label = absurd cc

stage_low : (n : Numbers) (number entries : ℕ) (e : Event) (g : Stage) (s : Step) → stage_step n number entries e g ≡ Some s → FitsStage n.labels g → s.word < word_count n.labels
stage_low n number entries e Out s h f = out_low n entries e s h
stage_low n number entries e (In p) s h f = in_low n e s h
stage_low n number entries e (On p m x d) s h f = on_low n number p m x d e s h f.0

-- a step of a writer finds its word
pub step_low : (n : Numbers) (e : Event) (w : WriterState) (s : Step) → writer_step n e w ≡ Some s → FitsWriter n w → s.word < word_count n.labels
step_low n e (Live number stage entries made) s h f = stage_low n number entries e stage s h f.0
step_low n e Gone s h f = absurd cc

-- The numbers stay in their ranges

out_fits : (n : Numbers) (entries found : ℕ) (e : Event) (s : Step) → out_step n.budget entries e ≡ Some s → entries + 0 ≤ n.budget → FitsStage n.labels (stage_after e found Out) × (entries_after e entries + busy (stage_after e found Out) ≤ n.budget)
out_fits n entries found (event.Enter x) s h f = let i = step_is (ltb entries n.budget) 1 (Add 1) s h in let l = less entries n.budget i.0 in (tt, omega arith)
out_fits n entries found (event.LookStop x) s h f = (tt, f)
out_fits n entries found (event.RaiseStop x) s h f = (tt, f)
out_fits n entries found e s h f = absurd cc

in_fits : (n : Numbers) (p : Bool) (entries found : ℕ) (e : Event) (s : Step) → in_step n.labels e ≡ Some s → entries + 1 ≤ n.budget → FitsStage n.labels (stage_after e found (In p)) × (entries_after e entries + busy (stage_after e found (In p)) ≤ n.budget)
in_fits n p entries found (event.Load x e) s h f = let i = step_is (ltb e.label n.labels) 0 Load s h in ((less e.label n.labels i.0, omega arith), f)
in_fits n p entries found e s h f = absurd cc

on_fits : (n : Numbers) (number : ℕ) (p : Bool) (m : ℕ) (x : Entry) (d entries found : ℕ) (e : Event) (s : Step) → on_step n.labels number p m x d e ≡ Some s → FitsStage n.labels (On p m x d) → entries + 1 ≤ n.budget
    → FitsStage n.labels (stage_after e found (On p m x d)) × (entries_after e entries + busy (stage_after e found (On p m x d)) ≤ n.budget)
on_fits n number p m x d entries found (event.Add w) s h g f =
    let i = step_is (ltb d (3 + one_if (not x.ok))) (place n.labels (m % 2) number x.label (column x d)) (cell_change (column x d) x) s h in
    let l = less d (3 + one_if (not x.ok)) i.0 in ((g.0, omega arith), f)
on_fits n number p m x d entries found (event.Lower w) s h g f =
    let i = step_is (d == 3 + one_if (not x.ok)) (place n.labels (m % 2) number x.label (column x d)) (cell_change (column x d) x) s h in
    let l = eqb-true d (3 + one_if (not x.ok)) i.0 in ((g.0, omega arith), f)
on_fits n number p m x d entries found (event.Raise w) s h g f =
    let i = step_is (d == 4 + one_if (not x.ok)) (place n.labels (m % 2) number x.label (column x d)) (cell_change (column x d) x) s h in
    let l = eqb-true d (4 + one_if (not x.ok)) i.0 in ((g.0, omega arith), f)
on_fits n number p m x d entries found (event.Exit w) s h g f = (tt, omega arith)
on_fits n number p m x d entries found e s h g f = absurd cc

stage_fits : (n : Numbers) (number entries found : ℕ) (e : Event) (g : Stage) (s : Step) → stage_step n number entries e g ≡ Some s → FitsStage n.labels g → entries + busy g ≤ n.budget
    → FitsStage n.labels (stage_after e found g) × (entries_after e entries + busy (stage_after e found g) ≤ n.budget)
stage_fits n number entries found e Out s h g f = out_fits n entries found e s h f
stage_fits n number entries found e (In p) s h g f = in_fits n p entries found e s h f
stage_fits n number entries found e (On p m x d) s h g f = on_fits n number p m x d entries found e s h g f

pub step_fits : (n : Numbers) (e : Event) (found : ℕ) (w : WriterState) (s : Step) → writer_step n e w ≡ Some s → FitsWriter n w → FitsWriter n (writer_after e found w)
step_fits n e found (Live number stage entries made) s h f = stage_fits n number entries found e stage s h f.0 f.1
step_fits n e found Gone s h f = tt

pub found_low : (n : Numbers) (e : Event) (ws : List WriterState) (i long : ℕ) (d : WriterState) (o : Option Step) (s : Step) → o ≡ writer_step n e (get_or ws i d) → o ≡ Some s → AllFitWriters n ws → i < length ws → long ≡ word_count n.labels → s.word < long
found_low n e ws i long d o s made is fit lt wide = let l = step_low n e (get_or ws i d) s (sym made ∙ is) (fits_at n ws i d fit lt) in omega arith
