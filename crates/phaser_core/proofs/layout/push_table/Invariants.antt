use Rattle.std.proofs.Common.{◌≡◌, ◌++◌}
use Rattle.phaser_core.specs.CoreMoves.{first_cells}
use Rattle.phaser_core.proofs.layout.push_table.Given as goal

abbrev pub invariant-loop-row : goal.invariant-loop-row
invariant-loop-row l = l.words.items ≡ l.initial.words.items ++ first_cells l._row
