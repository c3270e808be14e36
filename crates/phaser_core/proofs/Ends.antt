-- The end: once there is no writer, the closed reports and the report of the open interval partition the joined lists.
use Rattle.std.proofs.Common.{◌≡◌, ◌≢◌, ℕ, ◌+◌, ◌-◌, ◌<◌, List, [], ◌∷◌, ◌++◌, length, get_or, map, sym, refl, ap, ◌∙◌, subst, arith, length-append, add-zero}
use mathlib.Core.Logic.{dite}
use mathlib.Core.Option.{some}
use native.Mathlib.Decide.{ℕ_discrete}
use lib.ListN.{get_elem?}
use Rattle.jm_base.specs.declared.types.Entry.{Entry}
use Rattle.interval_tables.specs.declared.report.Report.{Report}
use Rattle.interval_tables.specs.Rows.{sum_of}
use Rattle.phaser_core.specs.declared.view.Numbers.{Numbers}
use Rattle.phaser_core.specs.declared.view.ReporterStage.TheVariants.{Idle}
use Rattle.phaser_core.specs.declared.view.Joined.{Joined}
use Rattle.phaser_core.specs.declared.view.ReporterView.{ReporterView}
use Rattle.phaser_core.specs.declared.view.View.{View}
use Rattle.phaser_core.specs.declared.view.View.TheVariants.{Reporter, Gone}
use Rattle.phaser_core.specs.Cells.{table_cells, cell_at, report_from, no_report}
use Rattle.phaser_core.specs.Views.{Pair, pending, active, joined_at}
use Rattle.phaser_core.specs.Shares.{entries_of, joined_share, entries_in, AllTimed, Partition}
use Rattle.phaser_core.specs.Invariant.{RecorderInvariant}
use Rattle.phaser_core.proofs.Halves.{AllTimely}
use Rattle.phaser_core.proofs.CellSteps.{last_is, before_last}
use Rattle.phaser_core.proofs.Sounds.{ends_sums}
use Rattle.phaser_core.proofs.Sharing.{Countable, joined_counts, joined_report}
use Rattle.phaser_core.proofs.Whole.{halves}
use Rattle.phaser_core.proofs.Steps.{joined_in_time, reader_is}

-- the lists of joined writers
abbrev pub lists_of : List Joined → List (List Pair)
lists_of js = map (λ (j : Joined). j.list) js

pub share_in : (m : ℕ) (js : List Joined) → joined_share m js ≡ entries_in m (lists_of js)
share_in m [] = refl
share_in m (j ∷ js) = ap (λ (es : List Entry). entries_of m j.list ++ es) (share_in m js)

in_time : (a : ℕ) (js : List Joined) → AllTimely a js → AllTimed a (lists_of js)
in_time a [] h = tt
in_time a (j ∷ js) h = ((h.0.0, h.0.1), in_time a js h.1)

-- the report whose cells are what the joined lists contribute is the sum of their entries
lists_report : (labels m : ℕ) (js : List Joined) (f : ℕ → ℕ) → Countable labels js → ((j : ℕ) → j < table_cells labels → f j ≡ joined_at labels m j js) → report_from labels m f ≡ record { interval = m; rows = sum_of labels (entries_in m (lists_of js)) }
lists_report labels m js f counts is = joined_report labels m js f counts is ∙ ap (λ (es : List Entry). record { interval = m; rows = sum_of labels es }) (share_in m js)

-- what a read tells once there is no other view: each closed report is the sum of the joined lists' entries of its interval, and so are the cells of the open one
pub read_knows : (n : Numbers) (ws : List ℕ) (vs : List View) (k : RecorderInvariant n ws vs) (r : ReporterView) → get_elem? vs 0 ≡ some (Reporter r) → r.closing ≡ Idle → ((port : ℕ) (u : View) → port ≢ 0 → get_elem? vs port ≡ some u → u ≡ Gone)
    → (length r.closed ≡ r.interval) × ((m : ℕ) → m < r.interval → get_or r.closed m no_report ≡ record { interval = m; rows = sum_of n.labels (entries_in m (lists_of r.joined)) })
    × ((j : ℕ) → j < table_cells n.labels → get_or ws (cell_at n.labels r.interval j) 0 ≡ joined_at n.labels r.interval j r.joined) × AllTimely r.interval r.joined × Countable n.labels r.joined
read_knows n ws vs k r prefix idle others =
    let e = ends_sums n ws vs (halves n ws vs k) r prefix idle others in
    let t : AllTimely (active r) r.joined = joined_in_time n ws vs k 0 r prefix in
    let now : active r ≡ r.interval = ap (λ (p : ℕ). r.interval + p) (ap pending idle) ∙ add-zero r.interval in
    let is = reader_is n ws vs k 0 r prefix in let counts = joined_counts n ws vs (halves n ws vs k) 0 r prefix in (
      subst (λ (q : ReporterView). length q.closed ≡ q.interval) is k.closed_reports.count,
      (λ m old. e.0 m old ∙ lists_report n.labels m r.joined (λ j. joined_at n.labels m j r.joined) counts (λ j low. refl)),
      e.1,
      subst (λ (a : ℕ). AllTimely a r.joined) now t,
      counts,
    )

-- the closed reports with that of the open interval
pub partition_of : (labels : ℕ) (r : ReporterView) (f : ℕ → ℕ) → length r.closed ≡ r.interval → ((m : ℕ) → m < r.interval → get_or r.closed m no_report ≡ record { interval = m; rows = sum_of labels (entries_in m (lists_of r.joined)) })
    → ((j : ℕ) → j < table_cells labels → f j ≡ joined_at labels r.interval j r.joined) → AllTimely r.interval r.joined → Countable labels r.joined → Partition labels (lists_of r.joined) (r.closed ++ report_from labels r.interval f ∷ [])
partition_of labels r f count closed cells timely counts =
    let last : Report = report_from labels r.interval f in
    let long : length (r.closed ++ last ∷ []) ≡ r.interval + 1 = length-append r.closed (last ∷ []) ∙ (omega arith) in
    let upto : length (r.closed ++ last ∷ []) - 1 ≡ r.interval = omega arith in
    record {
      some = omega arith;
      timed = subst (λ (a : ℕ). AllTimed a (lists_of r.joined)) (sym upto) (in_time r.interval r.joined timely);
      sums = λ m low. dite (ℕ_discrete m r.interval)
          (λ e. subst (λ (z : ℕ). get_or (r.closed ++ last ∷ []) z no_report ≡ record { interval = z; rows = sum_of labels (entries_in z (lists_of r.joined)) }) (sym e)
          (last_is r.closed last no_report r.interval count ∙ lists_report labels r.interval r.joined f counts cells))
          (λ ne. before_last r.closed last no_report m (omega arith) ∙ closed m (omega arith));
    }
