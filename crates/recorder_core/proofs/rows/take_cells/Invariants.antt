use Rattle.std.proofs.Common.{◌≡◌, ◌+◌, ◌*◌, ◌<◌, ◌++◌, length, get_or, take}
use Rattle.phaser_core.specs.CoreMoves.{gathered}
use Rattle.phaser_core.specs.Shares.{SumsOfStripes}
use Rattle.phaser_words.specs.WordSeats.{reading, numbers, IsReporterOf}
use Rattle.recorder_core.proofs.rows.take_cells.Given as goal

abbrev pub invariant-loop-column : goal.invariant-loop-column
invariant-loop-column l = record {
  seated : IsReporterOf l.words l.seat;
  long : length l.cells ≡ 6;
  far : reading l.seat ≡ gathered (reading l.initial.seat) ((reading l.initial.seat).cells ++ take l.column l.cells) (6 * (l.fn.stripe * (numbers l.words).labels + l.fn.label) + l.column);
  sums : 0 < l.column → SumsOfStripes (reading l.initial.seat).labels (length ((reading l.initial.seat).cells ++ take l.column l.cells)) (λ j. get_or ((reading l.initial.seat).cells ++ take l.column l.cells) j 0);
}
