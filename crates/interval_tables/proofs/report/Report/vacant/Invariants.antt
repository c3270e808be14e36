use Rattle.std.proofs.Common.{◌≡◌, []}
use Rattle.interval_tables.specs.Rows.{sum_of}
use Rattle.interval_tables.proofs.report.Report.vacant.Given as goal

abbrev pub invariant-loop-label : goal.invariant-loop-label
invariant-loop-label l = l.values.items ≡ sum_of l._label []
