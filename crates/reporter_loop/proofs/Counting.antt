-- What is counted of all closed reports, and of one more.
use Rattle.std.proofs.Common.{◌≡◌, ◌∙◌, ℕ, List, [], length, sym, ap, subst, arith}
use Rattle.interval_tables.specs.declared.row.Row.{Row}
use Rattle.interval_tables.specs.declared.report.Report.{Report}
use Rattle.interval_tables.specs.Rows.{sum_of, merged_rows, IsInBounds}
use Rattle.interval_tables.proofs.Bounds.{sum_in_bounds}
use Rattle.interval_tables.proofs.Folding.{length-merged_rows}
use Rattle.interval_tables.proofs.Sums.{length-sum_of}
use Rattle.phaser_core.specs.declared.view.Numbers.{Numbers}
use Rattle.phaser_core.specs.declared.view.ReporterView.{ReporterView}
use Rattle.phaser_core.specs.Shares.{rows_of_all, SumsOfLists}
use Rattle.phaser_core.proofs.Merging.{report_more}
use Rattle.recorder_core.specs.Stands.{closed_as}
use Rattle.reporter_loop.specs.Counted.{CountsAll}

-- no report is closed
pub counts_none : (labels : ℕ) (r : ReporterView) (total : Report) → r.closed ≡ [] → total.rows ≡ sum_of labels [] → CountsAll labels r total
counts_none labels r total none is = record {
  all = is ∙ ap (rows_of_all labels) (sym none);
  rows = ap length is ∙ length-sum_of labels [];
  bounds = subst IsInBounds (sym is) (sum_in_bounds labels [] tt tt (omega arith));
}

-- the same reports
pub counts_same : (labels : ℕ) (r s : ReporterView) (total : Report) → s.closed ≡ r.closed → CountsAll labels r total → CountsAll labels s total
counts_same labels r s total closed h = record { all = h.all ∙ ap (rows_of_all labels) (sym closed); rows = h.rows; bounds = h.bounds }

-- one report more
module _ (n : Numbers) (r s : ReporterView) (x total : Report) (h : CountsAll n.labels r total) (is : s ≡ closed_as r x) (sums : SumsOfLists n s) where
  all_rows : rows_of_all n.labels s.closed ≡ merged_rows total.rows x.rows
  all_rows =
      ap (λ (q : ReporterView). rows_of_all n.labels q.closed) is ∙ report_more (sum_of n.labels []) r.closed x
      ∙ ap (λ (rows : List Row). merged_rows rows x.rows) (sym h.all)

  pub more_fits : IsInBounds (merged_rows total.rows x.rows)
  more_fits = subst IsInBounds all_rows sums.together

  pub counts_more : (now : Report) → now.rows ≡ merged_rows total.rows x.rows → CountsAll n.labels s now
  counts_more now are = record {
    all = are ∙ sym all_rows;
    rows = ap length are ∙ length-merged_rows total.rows x.rows ∙ h.rows;
    bounds = subst IsInBounds (sym are) more_fits;
  }
