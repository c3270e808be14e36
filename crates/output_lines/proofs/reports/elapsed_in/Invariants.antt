use Rattle.std.proofs.Common.{◌≡◌, take}
use Rattle.interval_tables.specs.declared.row.Row.{Row}
use Rattle.interval_tables.specs.Totals.{total}
use Rattle.output_lines.proofs.reports.elapsed_in.Given as goal

abbrev pub invariant-loop-row : goal.invariant-loop-row
invariant-loop-row l = l.elapsed ≡ total (λ (r : Row). r.total) (take l.row-index l.rows)
