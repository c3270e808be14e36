use Rattle.phaser_core.specs.declared.view.Numbers.{Numbers}
use Rattle.weave_engine.specs.Turns.{thread_turn, ends_row}
use Rattle.weave_engine.specs.Seats.{RunsOn, Locked, turns_at, AllKeepOn}
use Rattle.weave_engine.proofs.RowLaws.{Continues}
use Rattle.weave_engine.proofs.rows.thread_row.Given as goal

abbrev pub invariant-turns : goal.invariant-turns
invariant-turns l = record {
  on : (n : Numbers) → Continues (thread_turn n l.thread) (ends_row n l.thread) (RunsOn n l.fn.seats.items l.fn.core l.fn.locks.items) (RunsOn n l.seats.items l.core l.locks.items);
  locked : Locked l.seats.items l.locks.items;
  keeps : AllKeepOn l.fn.seats.items l.seats.items;
}

abbrev pub decreases-turns : goal.decreases-turns
decreases-turns l = turns_at l.seats.items l.thread
