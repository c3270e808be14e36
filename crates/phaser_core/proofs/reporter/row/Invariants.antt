use Rattle.std.proofs.Common.{◌≡◌, slice_index}
use Rattle.interval_tables.specs.Rows.{row_cells}
use Rattle.phaser_core.specs.Cells.{folded_to}
use Rattle.phaser_core.proofs.reporter.row.Given as goal

abbrev pub invariant-loop-stripe : goal.invariant-loop-stripe
invariant-loop-stripe l = l.row ≡ row_cells (folded_to l.fn.labels (λ j. slice_index l.cells j) l.stripe l.fn.label)
