use Rattle.std.proofs.Common.{◌≡◌, length}
use Rattle.phaser_core.specs.Cells.{merged_to}
use Rattle.phaser_words.specs.WordSeats.{reading, numbers, IsReporterOf}
use Rattle.recorder_core.specs.Folds.{open_cell}
use Rattle.recorder_core.proofs.rows.read_report.Given as goal

abbrev pub invariant-loop-stripe : goal.invariant-loop-stripe
invariant-loop-stripe l = record {
  seated : IsReporterOf l.words l.seat;
  same : reading l.seat ≡ reading l.initial.seat;
  long : length l.into.rows ≡ length l.initial.into.rows;
  folded : l.into.rows ≡ merged_to (numbers l.words).labels (open_cell (numbers l.words).labels (reading l.initial.seat)) l.stripe;
}
