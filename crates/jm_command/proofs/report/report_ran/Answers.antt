use Rattle.std.proofs.Common.{length, ap, ◌∙◌}
use Rattle.interval_tables.proofs.Sums.{length-sum_of}
use Rattle.jm_command.proofs.report.report_ran.Goals as goal

pub print_report-requires-clause-rows : goal.print_report-requires-clause-rows
print_report-requires-clause-rows g c = ap (λ r. length r.rows) c.in-Ok.ensures.total ∙ length-sum_of _ _
