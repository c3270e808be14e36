use Rattle.std.proofs.Common.{◌≡◌, slice_index}
use Rattle.phaser_core.specs.Cells.{folded_to, rows_from}
use Rattle.phaser_core.proofs.reporter.report.Given as goal

abbrev pub invariant-loop-label : goal.invariant-loop-label
invariant-loop-label l = l.rows.items ≡ rows_from l.label (folded_to l.fn.labels (λ j. slice_index l.cells j) 4)
