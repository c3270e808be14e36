use Rattle.std.proofs.Common.{◌≡◌, take}
use Rattle.interval_tables.specs.declared.row.Row.{Row}
use Rattle.jm_base.specs.SumTotals.{total}
use Rattle.interval_tables.proofs.report.Report.errors.Given as goal

abbrev pub invariant-loop-row : goal.invariant-loop-row
invariant-loop-row l = l.errors ≡ total (λ (r : Row). r.errors) (take l.row-index l.row-items)
