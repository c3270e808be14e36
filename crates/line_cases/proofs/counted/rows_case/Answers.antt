use Rattle.std.proofs.Common.{arith}
use Rattle.line_cases.proofs.Counts.{in_bounds}
use Rattle.line_cases.proofs.counted.rows_case.Goals as goal

pub write_report-requires : goal.write_report-requires
write_report-requires c = in_bounds _ 1000 _ c.in_ok-report.ensures (omega arith)
