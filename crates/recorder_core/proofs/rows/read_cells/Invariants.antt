use Rattle.std.proofs.Common.{◌≡◌, ℕ, ◌<◌, length, get_or}
use Rattle.phaser_core.specs.Cells.{cell_of}
use Rattle.phaser_words.specs.WordSeats.{reading, numbers, IsReporterOf}
use Rattle.recorder_core.specs.Folds.{open_cell}
use Rattle.recorder_core.proofs.rows.read_cells.Given as goal

abbrev pub invariant-loop-column : goal.invariant-loop-column
invariant-loop-column l = record {
  seated : IsReporterOf l.words l.seat;
  long : length l.cells ≡ 6;
  same : reading l.seat ≡ reading l.initial.seat;
  read : (c : ℕ) → c < l.column → get_or l.cells c 0 ≡ open_cell (numbers l.words).labels (reading l.initial.seat) (cell_of (numbers l.words).labels l.fn.stripe l.fn.label c);
}
