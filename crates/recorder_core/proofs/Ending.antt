-- A report that is handed out is in bounds, and the last one sums what joined writers recorded in the open interval.
use Rattle.std.proofs.Common.{◌≡◌, ℕ, ◌+◌, List, [], ◌∷◌, ◌++◌, length, sym, refl, ap, ◌∙◌, subst, arith, length-append}
use Rattle.interval_tables.specs.declared.report.Report.{Report}
use Rattle.interval_tables.specs.declared.row.Row.{Row}
use Rattle.interval_tables.specs.Rows.{sum_of, IsInBounds}
use Rattle.interval_tables.proofs.Sums.{length-sum_of}
use Rattle.phaser_core.specs.declared.view.Numbers.{Numbers}
use Rattle.phaser_core.specs.declared.view.ReporterView.{ReporterView}
use Rattle.phaser_core.specs.declared.view.ReporterStage.TheVariants.{Idle}
use Rattle.phaser_core.specs.Cells.{table_cells, rows_from, folded_to, merged_to, no_report}
use Rattle.phaser_core.proofs.Stripes.{merged_report}
use Rattle.phaser_core.specs.Views.{AllJoined}
use Rattle.phaser_core.specs.Shares.{entries_in, Partition, SumsOfLists}
use Rattle.phaser_core.proofs.CellSteps.{last_is}
use Rattle.phaser_words.specs.RecorderKinds.{lists_of, Recalled}
use Rattle.recorder_core.specs.Stands.{closed_as}
use Rattle.recorder_core.specs.Folds.{open_cell}
use Rattle.recorder_core.specs.RecorderSeats.{last_report, EndsWith}

-- the last of the closed reports is in bounds, as each is
pub harvested_bounds : (n : Numbers) (r s : ReporterView) (report : Report) → SumsOfLists n s → s ≡ closed_as r report → IsInBounds report.rows
harvested_bounds n r s report sums is =
    let told = subst (SumsOfLists n) is sums in
    let more : length (r.closed ++ report ∷ []) ≡ length r.closed + 1 = length-append r.closed (report ∷ []) in
    subst (λ (q : Report). IsInBounds q.rows) (last_is r.closed report no_report (length r.closed) refl) (told.bounds (length r.closed) (omega arith))

-- the last report of a partition is that of the interval after those that are closed
last_of_parts : (labels : ℕ) (r : ReporterView) (last : Report) → Partition labels (lists_of r.joined) (r.closed ++ last ∷ []) → last ≡ record { interval = length r.closed; rows = sum_of labels (entries_in (length r.closed) (lists_of r.joined)) }
last_of_parts labels r last parted =
    let more : length (r.closed ++ last ∷ []) ≡ length r.closed + 1 = length-append r.closed (last ∷ []) in
    sym (last_is r.closed last no_report (length r.closed) refl) ∙ parted.sums (length r.closed) (omega arith)

-- the stripes of the open interval, merged, are the rows that its cells fold to
pub folded_rows : (n : Numbers) (r q : ReporterView) → q ≡ r → Recalled n r → merged_to n.labels (open_cell n.labels q) 4 ≡ rows_from n.labels (folded_to n.labels (open_cell n.labels r) 4)
folded_rows n r q same knows =
    ap (λ (z : ReporterView). merged_to n.labels (open_cell n.labels z) 4) same
    ∙ ap (λ (z : Report). z.rows) (sym (merged_report n.labels r.interval (table_cells n.labels) (open_cell n.labels r) (knows.stripes r.interval) (omega arith)))

-- what all cells of the open interval make is its report
pub ends_with : (n : Numbers) (r s : ReporterView) (last : Report) (rows : List Row) → r.labels ≡ n.labels → r.closing ≡ Idle → AllJoined r → s ≡ r → Recalled n s → rows ≡ rows_from n.labels (folded_to n.labels (open_cell n.labels r) 4)
    → last ≡ record { interval = r.interval; rows = rows } → EndsWith n r last
ends_with n r s last rows labels idle all same recalled are handed =
    let knows : Recalled n r = subst (Recalled n) same recalled in
    let made : record { interval = r.interval; rows = rows_from r.labels (folded_to r.labels (open_cell r.labels r) 4) } ≡ last =
    ap (λ (l : List Row). record { interval = r.interval; rows = l }) (sym (are ∙ ap (λ (l : ℕ). rows_from l (folded_to l (open_cell l r) 4)) (sym labels))) ∙ sym handed in
    let found : Partition r.labels (lists_of r.joined) (r.closed ++ last ∷ []) =
    subst (λ (q : Report). Partition r.labels (lists_of r.joined) (r.closed ++ q ∷ [])) made (knows.ends idle all (open_cell r.labels r) (λ j low. refl)) in
    let here = last_of_parts r.labels r last found in
    let at : last.interval ≡ length r.closed = ap (λ (q : Report). q.interval) here in
    let opened : last.interval ≡ r.interval = ap (λ (q : Report). q.interval) handed in
    let is : last ≡ last_report r = here ∙ ap (λ (m : ℕ). record { interval = m; rows = sum_of r.labels (entries_in m (lists_of r.joined)) }) (sym at ∙ opened) in
    let low : IsInBounds (last_report r).rows = subst (λ (l : ℕ). IsInBounds (sum_of l (entries_in r.interval (lists_of r.joined)))) (sym labels) (knows.bounds r.interval) in
    record {
      is = is;
      parted = subst (λ (l : ℕ). Partition l (lists_of r.joined) (r.closed ++ last ∷ [])) labels found;
      count = length-append r.closed (last ∷ []) ∙ (omega arith);
      rows = ap (λ (q : Report). length q.rows) is ∙ length-sum_of r.labels (entries_in r.interval (lists_of r.joined)) ∙ labels;
      bounds = subst (λ (q : Report). IsInBounds q.rows) (sym is) low;
    }

-- the books show the report that is handed out as the last
pub all_shown : (r s : ReporterView) (last : Report) → s ≡ r → last ≡ last_report r → s.closed ++ last_report s ∷ [] ≡ r.closed ++ last ∷ []
all_shown r s last same is = ap (λ (q : ReporterView). q.closed ++ last_report q ∷ []) same ∙ ap (λ (q : Report). r.closed ++ q ∷ []) (sym is)

pub all_parted : (n : Numbers) (r s : ReporterView) (last : Report) → s ≡ r → EndsWith n r last → Partition n.labels (lists_of s.joined) (s.closed ++ last_report s ∷ [])
all_parted n r s last same ends =
    subst (λ (q : ReporterView). Partition n.labels (lists_of q.joined) (s.closed ++ last_report s ∷ [])) (sym same)
    (subst (λ (all : List Report). Partition n.labels (lists_of r.joined) all) (sym (all_shown r s last same ends.is)) ends.parted)

pub all_counted : (n : Numbers) (r s : ReporterView) (last : Report) (interval : ℕ) → s ≡ r → EndsWith n r last → interval ≡ s.interval → interval + 1 ≡ length (s.closed ++ last_report s ∷ [])
all_counted n r s last interval same ends opened =
    ap (λ (k : ℕ). k + 1) (opened ∙ ap (λ (q : ReporterView). q.interval) same) ∙ sym ends.count ∙ ap (λ (all : List Report). length all) (sym (all_shown r s last same ends.is))
