use Rattle.std.proofs.Common.{◌≡◌, length}
use Rattle.phaser_core.specs.declared.view.Numbers.{Numbers}
use Rattle.weave_engine.specs.Turns.{turns_to, ends_rounds}
use Rattle.weave_engine.specs.Seats.{RunsOn, Locked, total_left, AllKeepOn}
use Rattle.weave_engine.proofs.RowLaws.{Continues}
use Rattle.weave_engine.proofs.rounds.run_out.Given as goal

abbrev pub invariant-rounds : goal.invariant-rounds
invariant-rounds l = record {
  on : (n : Numbers) → Continues (turns_to n (length l.fn.seats.items)) (ends_rounds n (length l.fn.seats.items)) (RunsOn n l.fn.seats.items l.fn.core l.fn.locks.items) (RunsOn n l.seats.items l.core l.locks.items);
  locked : Locked l.seats.items l.locks.items;
  count : length l.seats.items ≡ length l.fn.seats.items;
  keeps : AllKeepOn l.fn.seats.items l.seats.items;
}

abbrev pub decreases-rounds : goal.decreases-rounds
decreases-rounds l = total_left l.seats.items
