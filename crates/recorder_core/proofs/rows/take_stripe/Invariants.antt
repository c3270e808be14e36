use Rattle.std.proofs.Common.{◌≡◌, length}
use Rattle.phaser_words.specs.WordSeats.{reading, numbers, IsReporterOf}
use Rattle.recorder_core.proofs.Cellwise.{StripeTaken}
use Rattle.recorder_core.proofs.rows.take_stripe.Given as goal

abbrev pub invariant-loop-label : goal.invariant-loop-label
invariant-loop-label l = record {
  seated : IsReporterOf l.words l.seat;
  interval : l.into.interval ≡ l.initial.into.interval;
  long : length l.into.rows ≡ length l.initial.into.rows;
  taken : StripeTaken (numbers l.words).labels l.fn.stripe l.label (reading l.initial.seat) (reading l.seat) l.into.rows;
}
