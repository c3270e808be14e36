-- What is counted of all closed reports together.
use Rattle.std.specs.Prelude.{◌≡◌, ℕ, length}
use Rattle.interval_tables.specs.declared.report.Report.{Report}
use Rattle.interval_tables.specs.Rows.{IsInBounds}
use Rattle.phaser_core.specs.Shares.{rows_of_all}
use Rattle.phaser_core.specs.declared.view.ReporterView.{ReporterView}

-- The total has the rows of all closed reports together, one for each label, in bounds.
pub record CountsAll (labels : ℕ) (r : ReporterView) (total : Report) : Type 0 where
  pub all : total.rows ≡ rows_of_all labels r.closed
  pub rows : length total.rows ≡ labels
  pub bounds : IsInBounds total.rows
