use Rattle.std.proofs.Common.{arith}
use Rattle.line_cases.proofs.Counts.{as_long, in_bounds}
use Rattle.line_cases.proofs.printed.lines_of.Goals as goal

pub report_lines-requires-clause-rows : goal.report_lines-requires-clause-rows
report_lines-requires-clause-rows c = as_long _ _ _ c.requires

pub report_lines-requires-clause-bounds : goal.report_lines-requires-clause-bounds
report_lines-requires-clause-bounds c = in_bounds _ 1000 _ c.requires (omega arith)

pub summary_lines-requires-clause-rows : goal.summary_lines-requires-clause-rows
summary_lines-requires-clause-rows c = as_long _ _ _ c.requires

pub summary_lines-requires-clause-bounds : goal.summary_lines-requires-clause-bounds
summary_lines-requires-clause-bounds c = in_bounds _ 1000 _ c.requires (omega arith)
