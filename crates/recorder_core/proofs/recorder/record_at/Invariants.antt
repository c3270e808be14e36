use Rattle.std.proofs.Common.{◌≡◌, ◌+◌}
use Rattle.phaser_core.specs.Views.{at_stage}
use Rattle.phaser_core.specs.declared.view.Stage.TheVariants.{On}
use Rattle.phaser_words.specs.RecorderKinds.{parity_in}
use Rattle.phaser_words.specs.WordSeats.{writing, IsWriterOf}
use Rattle.recorder_core.proofs.recorder.record_at.Given as goal

abbrev pub invariant-loop-done : goal.invariant-loop-done
invariant-loop-done g l = record {
  seated : IsWriterOf l.words l.seat;
  on : writing l.seat ≡ at_stage (writing l.initial.seat) (On (parity_in (writing l.initial.seat).stage) l.interval l.fn.entry l.done) (writing l.initial.seat).list;
  counted : l.steps ≡ l.initial.steps + l.done;
}
