use Rattle.std.proofs.Common.{◌≡◌, ◌≤◌, length}
use Rattle.phaser_core.specs.declared.view.Numbers.{Numbers}
use Rattle.weave_engine.specs.Turns.{Weave, turns_to}
use Rattle.weave_engine.specs.Seats.{RunsOn, Locked, AllKeepOn}
use Rattle.weave_engine.proofs.RoundLaws.{SoFar}
use Rattle.weave_engine.proofs.rounds.round.Given as goal

abbrev pub invariant-threads : goal.invariant-threads
invariant-threads l = record {
  most : l.thread ≤ l.count;
  end : l.count ≡ length l.fn.seats.items;
  on : (n : Numbers) (s : Weave) → RunsOn n l.fn.seats.items l.fn.core l.fn.locks.items s → RunsOn n l.seats.items l.core l.locks.items (turns_to n l.thread s);
  locked : Locked l.seats.items l.locks.items;
  light : SoFar l.fn.locks.items l.locks.items l.fn.seats.items l.seats.items l.thread;
  count : length l.seats.items ≡ length l.fn.seats.items;
  keeps : AllKeepOn l.fn.seats.items l.seats.items;
}
