use Rattle.std.proofs.Common.{◌≡◌, [], take}
use Rattle.interval_tables.specs.Rows.{sum_of}
use Rattle.interval_tables.proofs.report.clear_all.Given as goal

abbrev pub invariant-loop-label : goal.invariant-loop-label
invariant-loop-label l = take l.label l.rows ≡ sum_of l.label []
