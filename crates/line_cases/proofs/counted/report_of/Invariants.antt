use Rattle.line_cases.specs.Counted.{IsCount}
use Rattle.line_cases.proofs.counted.report_of.Given as goal

abbrev pub invariant-samples : goal.invariant-samples
invariant-samples l = IsCount l.labels l.report.rows l.entry-index
