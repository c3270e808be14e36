use Rattle.std.proofs.Common.{◌≡◌}
use Rattle.interval_tables.proofs.Bounds.{merged_to}
use Rattle.interval_tables.proofs.report.merge_all.Given as goal

abbrev pub invariant-loop-label : goal.invariant-loop-label
invariant-loop-label l = l.rows ≡ merged_to l.label l.initial.rows l.others
