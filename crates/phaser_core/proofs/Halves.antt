-- The recorder invariant in the form in which steps are proved to keep it: the phases and who is inside, then what the cells hold, then the stop word.
use Rattle.std.proofs.Common.{◌≡◌, ℕ, ◌+◌, ◌%◌, ◌<◌, ◌≤◌, ◌==◌, Bool, List, [], ◌∷◌, length, get_or, ltb}
use mathlib.Core.Option.{some}
use lib.ListN.{get_elem?}
use Rattle.interval_tables.specs.declared.report.Report.{Report}
use Rattle.jm_base.specs.SumTotals.{total, one_if}
use Rattle.phaser_core.specs.declared.view.Numbers.{Numbers}
use Rattle.phaser_core.specs.declared.view.Stage.{Stage}
use Rattle.phaser_core.specs.declared.view.Stage.TheVariants.{Out, In, On}
use Rattle.phaser_core.specs.declared.view.Joined.{Joined}
use Rattle.phaser_core.specs.declared.view.ReporterView.{ReporterView}
use Rattle.phaser_core.specs.declared.view.View.{View}
use Rattle.phaser_core.specs.declared.view.View.TheVariants.{Reporter, Writer, Gone}
use Rattle.phaser_core.specs.Cells.{is_odd, end_at, initial, phase, vacant, sums, table_cells, word_count, cell_at, no_report, report_from}
use Rattle.phaser_core.specs.Views.{Pair, IsSized, inside, uses, holders, heads, pending, current, other, active, taken_count, worth}
use Rattle.phaser_core.specs.Shares.{AllUpTo, Rising}
use Rattle.phaser_core.specs.Invariant.{InsideBefore, MayCount, InTable, ShowsStop, Fits, AllSmall}
use Rattle.phaser_core.specs.CoreMoves.{stepped_words, stepped_views, Move, settled}

-- the phases, who is inside, and who there is
pub record Phased (n : Numbers) (words : List ℕ) (views : List View) : Type 0 where
  pub wide : length words ≡ word_count n.labels
  pub sizes : IsSized n
  pub reader : ReporterView
  pub labels : reader.labels ≡ n.labels
  pub prefix : get_elem? views 0 ≡ some (Reporter reader)
  pub made : ℕ
  pub ports : length views ≡ made + 1
  pub few : made ≤ n.writers
  pub closed : reader.interval + pending reader.closing ≤ 16777216
  pub parity : phase (get_or words 1 0) ≡ current reader
  pub now : total (inside (current reader)) views + get_or words (end_at (current reader)) 0 ≡ get_or words 1 0
  pub behind : InsideBefore reader.closing (total (inside (other reader)) views) (get_or words (end_at (other reader)) 0) (initial (other reader)) (total uses views)
  pub started : get_or words 1 0 ≤ initial (current reader) + total uses views
  pub ends : (p : Bool) → (initial p ≤ get_or words (end_at p) 0) × (get_or words (end_at p) 0 ≤ initial p + total uses views)
  pub people : total heads views ≡ made
  pub numbers : (q : ℕ) → total (holders q) views ≡ one_if (ltb q made)
  pub each : (id : ℕ) (v : View) → get_elem? views id ≡ some v → Fits n made id v

-- a stage, and the lists of a view, in time
abbrev pub TimelyStage : Numbers → ReporterView → List Pair → Stage → Type 0
TimelyStage n r l Out = Unit {0}
TimelyStage n r l (In p) = Unit {0}
TimelyStage n r l (On p m e d) = MayCount r.closing r.interval (current r) p m × AllUpTo m l × (d ≤ sums e) × (e.label < n.labels) × (e.elapsed < 4294967296) × (e.bytes < 4294967296)

abbrev pub AllTimely : ℕ → List Joined → Type 0
AllTimely a [] = Unit {0}
AllTimely a (j ∷ js) = (Rising j.list × AllUpTo a j.list × AllSmall j.list) × AllTimely a js

abbrev pub Timely : Numbers → ReporterView → View → Type 0
Timely n r (Reporter q) = AllTimely (active r) q.joined
Timely n r (Writer w) = TimelyStage n r w.list w.stage × Rising w.list × AllUpTo (active r) w.list × AllSmall w.list
Timely n r Gone = Unit {0}

-- the interval that closes and the next, in every stage
abbrev pub IsLive : ReporterView → ℕ → Type 0
IsLive r i = (r.interval ≤ i) × (i ≤ r.interval + 1)

-- the report that all contributions of an interval make
abbrev pub worth_report : ℕ → ℕ → List View → Report
worth_report labels m views = report_from labels m (λ j. worth labels m j views)

-- the active word, the cells and the reports
pub record Counted (n : Numbers) (words : List ℕ) (views : List View) (r : ReporterView) : Type 0 where
  pub now_active : get_or words 0 0 ≡ active r
  pub timely : (id : ℕ) (v : View) → get_elem? views id ≡ some v → Timely n r v
  pub taken : length r.cells ≡ taken_count r.closing
  pub within : InTable (table_cells n.labels) r.closing
  pub cells : (i j : ℕ) → IsLive r i → j < table_cells n.labels → (i ≡ r.interval → length r.cells ≤ j) → get_or words (cell_at n.labels i j) 0 ≡ worth n.labels i j views
  pub emptied : (j : ℕ) → j < length r.cells → (get_or words (cell_at n.labels r.interval j) 0 ≡ vacant (j % 6)) × (get_or r.cells j 0 ≡ worth n.labels r.interval j views)
  pub reports : length r.closed ≡ r.interval
  pub sums_are : (m : ℕ) → m < r.interval → get_or r.closed m no_report ≡ worth_report n.labels m views

pub record Sound (n : Numbers) (words : List ℕ) (views : List View) : Type 0 where
  pub phased : Phased n words views
  pub counted : Counted n words views phased.reader
  pub stopped : ShowsStop words views

abbrev pub StaysPhased : Numbers → List ℕ → List View → ℕ → Move → Type 0
StaysPhased n words views port m = Phased n (stepped_words words m) (stepped_views words views port m)

abbrev pub StaysSound : Numbers → List ℕ → List View → ℕ → Move → Type 0
StaysSound n words views port m = Sound n (stepped_words words m) (stepped_views words views port m)

-- a look of which nothing is kept
abbrev pub judging : ReporterView → ℕ → Move
judging r want = record { word = end_at (is_odd r.interval); change = λ x. x; after = λ x. Reporter (settled r (x == want)) }
