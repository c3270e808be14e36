use Rattle.std.proofs.Common.{◌≡◌, length}
use Rattle.phaser_words.specs.WordSeats.{reading, numbers, IsReporterOf}
use Rattle.recorder_core.specs.Folds.{HasTaken}
use Rattle.recorder_core.proofs.rows.take_report.Given as goal

abbrev pub invariant-loop-stripe : goal.invariant-loop-stripe
invariant-loop-stripe l = record {
  seated : IsReporterOf l.words l.seat;
  interval : l.into.interval ≡ l.initial.into.interval;
  long : length l.into.rows ≡ length l.initial.into.rows;
  taken : HasTaken (numbers l.words).labels l.stripe (reading l.initial.seat) (reading l.seat) l.into.rows;
}
