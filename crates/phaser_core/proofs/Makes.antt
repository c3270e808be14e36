-- A core as it is made, and how it ends.
use Rattle.std.proofs.Common.{◌≡◌, ◌≢◌, ℕ, zero, suc, ◌+◌, ◌-◌, ◌<◌, true, true≢false, List, [], ◌∷◌, ◌++◌, length, get_or, map, take, drop, sym, refl, ap, ◌∙◌, subst, arith, append_assoc, add-one}
use mathlib.Core.Option.{some, some-injective, some-ne-none}
use lib.ListN.{get_elem?}
use Rattle.interval_tables.specs.declared.report.Report.{Report}
use Rattle.phaser_core.specs.declared.view.Numbers.{Numbers}
use Rattle.phaser_core.specs.declared.view.Stage.TheVariants.{Out}
use Rattle.phaser_core.specs.declared.view.ReporterStage.{ReporterStage}
use Rattle.phaser_core.specs.declared.view.ReporterStage.TheVariants.{Idle, Swapped, Cleared, Waiting, Harvest}
use Rattle.phaser_core.specs.declared.view.ReporterView.{ReporterView}
use Rattle.phaser_core.specs.declared.view.View.{View}
use Rattle.phaser_core.specs.declared.view.View.TheVariants as view
use Rattle.phaser_core.specs.declared.writer.WriterState.{WriterState}
use Rattle.phaser_core.specs.declared.writer.WriterState.TheVariants.{Live, Gone}
use Rattle.phaser_core.specs.Cells.{table_cells, word_count, cell_at, report_from, report_of}
use Rattle.phaser_core.specs.Views.{IsSized}
use Rattle.phaser_core.specs.Shares.{Partition}
use Rattle.phaser_core.specs.CoreMoves.{first_cells, first_words}
use Rattle.phaser_core.specs.Invariant.{RecorderInvariant}
use Rattle.phaser_core.specs.Plain.{Parts, IsCoherent, is_idle}
use Rattle.phaser_core.specs.CoreShape.{Shape, kept_of, ShowsViews, Shows, all_gone, open_report, joined_lists}
use Rattle.phaser_core.proofs.Members.{first_wide}
use Rattle.phaser_core.proofs.CellSteps.{report_same, place_in}
use Rattle.phaser_core.proofs.Steps.{reporter_port}
use Rattle.phaser_core.proofs.Ends.{read_knows, partition_of}

abbrev row : List ℕ
row = 0 ∷ 0 ∷ 0 ∷ 0 ∷ 18446744073709551615 ∷ 0 ∷ []

row_last : (n : ℕ) → first_cells n ++ row ≡ first_cells (suc n)
row_last zero = refl
row_last (suc n) = ap (λ (l : List ℕ). 0 ∷ 0 ∷ 0 ∷ 0 ∷ 18446744073709551615 ∷ 0 ∷ l) (row_last n)

-- one more row at the end of a table
pub table_next : (items all new : List ℕ) (n : ℕ) → items ≡ all ++ first_cells n → new ≡ items ++ row → new ≡ all ++ first_cells (n + 1)
table_next items all new n is made = made ∙ ap (λ (l : List ℕ). l ++ row) is ∙ append_assoc all (first_cells n) row ∙ ap (λ (l : List ℕ). all ++ l) (row_last n ∙ ap first_cells (sym (add-one n)))

first_coherent : (n : Numbers) → IsSized n → IsCoherent n (first_words n.labels) (Live 0 Out 0 1 ∷ []) (record { interval = 0; closing = Idle; taken = []; closed = [] })
first_coherent n sized = record { sized = sized; wide = first_wide n; fit = ((tt, omega arith), tt); parts = record { room = omega arith; in_table = tt; count = refl } }

pub made_coherent : (n : Numbers) (ws : List ℕ) (wr : List WriterState) (p : Parts) → IsSized n → ws ≡ first_words n.labels → wr ≡ Live 0 Out 0 1 ∷ [] → p ≡ record { interval = 0; closing = Idle; taken = []; closed = [] } → IsCoherent n ws wr p
made_coherent n ws wr p sized a b c = subst (λ (z : List ℕ × List WriterState × Parts). IsCoherent n z.0 z.1 z.2) (λ i. (sym a i, sym b i, sym c i)) (first_coherent n sized)

-- The end

take_at : (l : List ℕ) (n j : ℕ) → j < n → get_or (take n l) j 0 ≡ get_or l j 0
take_at [] zero j h = refl
take_at [] (suc n) j h = refl
take_at (x ∷ xs) zero j h = absurd (omega arith)
take_at (x ∷ xs) (suc n) zero h = refl
take_at (x ∷ xs) (suc n) (suc j) h = take_at xs n j (omega arith)

drop_at : (l : List ℕ) (k j : ℕ) → get_or (drop k l) j 0 ≡ get_or l (k + j) 0
drop_at l zero j = ap (λ (i : ℕ). get_or l i 0) (omega arith)
drop_at [] (suc k) j = refl
drop_at (x ∷ xs) (suc k) j = drop_at xs k j ∙ ap (λ (i : ℕ). get_or (x ∷ xs) i 0) next where
  next : suc (k + j) ≡ suc k + j
  next = omega arith

-- the report of the cells of an interval's table
pub open_is : (labels interval : ℕ) (ws : List ℕ) (first count : ℕ) → first ≡ cell_at labels interval 0 → count ≡ table_cells labels → length ws ≡ word_count labels
    → report_of labels interval (take count (take (length ws - first) (drop first ws))) ≡ report_from labels interval (λ j. get_or ws (cell_at labels interval j) 0)
open_is labels interval ws first count at long wide = report_same labels interval (λ j. get_or (take count (take (length ws - first) (drop first ws))) j 0) (λ j. get_or ws (cell_at labels interval j) 0)
    (λ j low. let n : Numbers = record { labels = labels; writers = 0; budget = 0 } in let within = place_in n interval j low in
    take_at (take (length ws - first) (drop first ws)) count j (omega arith) ∙ take_at (drop first ws) (length ws - first) j (omega arith) ∙ drop_at ws first j ∙ ap (λ (i : ℕ). get_or ws i 0) (omega arith))

gone_view : (v : View) → kept_of v ≡ Gone → ((r : ReporterView) → v ≡ view.Reporter r → ⊥) → v ≡ view.Gone
gone_view (view.Writer w) is not = absurd cc
gone_view (view.Reporter r) is not = absurd (not r refl)
gone_view view.Gone is not = refl

gone_if_all : (os : List View) (i : ℕ) (v : View) → all_gone (map kept_of os) ≡ true → get_elem? os i ≡ some v → kept_of v ≡ Gone
gone_if_all [] i v h e = absurd (some-ne-none v (sym e))
gone_if_all (view.Writer w ∷ os) i v h e = absurd (true≢false (sym h))
gone_if_all (view.Reporter r ∷ os) zero v h e = sym (ap kept_of (some-injective (view.Reporter r) v e))
gone_if_all (view.Reporter r ∷ os) (suc i) v h e = gone_if_all os i v h e
gone_if_all (view.Gone ∷ os) zero v h e = sym (ap kept_of (some-injective view.Gone v e))
gone_if_all (view.Gone ∷ os) (suc i) v h e = gone_if_all os i v h e

pub idle_is : (c : ReporterStage) → is_idle c ≡ true → c ≡ Idle
idle_is Idle h = refl
idle_is Swapped h = absurd (true≢false (sym h))
idle_is Cleared h = absurd (true≢false (sym h))
idle_is (Waiting want) h = absurd (true≢false (sym h))
idle_is (Harvest j) h = absurd (true≢false (sym h))

others_are_gone : (n : Numbers) (ws : List ℕ) (r : ReporterView) (os : List View) → RecorderInvariant n ws (view.Reporter r ∷ os) → all_gone (map kept_of os) ≡ true → (port : ℕ) (v : View) → port ≢ 0 → get_elem? (view.Reporter r ∷ os) port ≡ some v → v ≡ view.Gone
others_are_gone n ws r os k all zero v ne e = absurd (ne refl)
others_are_gone n ws r os k all (suc i) v ne e = gone_view v (gone_if_all os i v all e) (λ q is. ne (reporter_port n ws (view.Reporter r ∷ os) k (suc i) q (e ∙ ap some is)))

ends_shape : (s : Shape) (r : ReporterView) (os : List View) → ShowsViews s r os → is_idle s.reporter.closing ≡ true → all_gone s.writers ≡ true → RecorderInvariant s.numbers s.words (view.Reporter r ∷ os) → Partition s.numbers.labels (joined_lists (view.Reporter r ∷ os)) (s.reporter.closed ++ open_report s ∷ [])
ends_shape s r os sh idle all k =
    let now : r.closing ≡ Idle = ap (λ (p : Parts). p.closing) sh.reporter ∙ idle_is s.reporter.closing idle in
    let others = others_are_gone s.numbers s.words r os k (ap all_gone sh.writers ∙ all) in
    let e = read_knows s.numbers s.words (view.Reporter r ∷ os) k r refl now others in
    let n : Numbers = s.numbers in
    subst (λ (p : Parts). Partition n.labels (joined_lists (view.Reporter r ∷ os)) (p.closed ++ report_from n.labels p.interval (λ j. get_or s.words (cell_at n.labels p.interval j) 0) ∷ [])) sh.reporter
    (partition_of n.labels r (λ j. get_or s.words (cell_at n.labels r.interval j) 0) e.0 e.1 e.2 e.3 e.4)

-- the reports at the end partition the joined lists of every state that the core may stand for
pub done_partition : (s : Shape) (views : List View) → is_idle s.reporter.closing ≡ true → all_gone s.writers ≡ true → Shows s views → RecorderInvariant s.numbers s.words views → Partition s.numbers.labels (joined_lists views) (s.reporter.closed ++ open_report s ∷ [])
done_partition s [] idle all sh k = absurd sh
done_partition s (view.Reporter r ∷ os) idle all sh k = ends_shape s r os sh idle all k
done_partition s (view.Writer w ∷ os) idle all sh k = absurd sh
done_partition s (view.Gone ∷ os) idle all sh k = absurd sh

-- the same, of the parts of a core that was taken apart
pub finish_partition : (s : Shape) (n : Numbers) (ws slice : List ℕ) (wr : List WriterState) (p : Parts) (reports : List Report) → record { numbers = n; words = ws; writers = wr; reporter = p } ≡ s → slice ≡ ws → reports ≡ p.closed ++ report_from n.labels p.interval (λ j. get_or slice (cell_at n.labels p.interval j) 0) ∷ []
    → is_idle s.reporter.closing ≡ true → all_gone s.writers ≡ true → (views : List View) → Shows s views → RecorderInvariant s.numbers s.words views → Partition s.numbers.labels (joined_lists views) reports
finish_partition s n ws slice wr p reports is same made idle all views sh k =
    let now : reports ≡ s.reporter.closed ++ open_report s ∷ [] = made ∙ ap (λ (l : List ℕ). p.closed ++ report_from n.labels p.interval (λ j. get_or l (cell_at n.labels p.interval j) 0) ∷ []) same ∙ ap (λ (z : Shape). z.reporter.closed ++ open_report z ∷ []) is in
    subst (Partition s.numbers.labels (joined_lists views)) (sym now) (done_partition s views idle all sh k)
