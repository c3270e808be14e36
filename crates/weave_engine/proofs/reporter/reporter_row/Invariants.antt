use Rattle.std.proofs.Common.{List}
use Rattle.phaser_core.specs.declared.view.Numbers.{Numbers}
use Rattle.weave_engine.specs.declared.seat.Seat.{Seat}
use Rattle.weave_engine.specs.Turns.{reporter_turn, ends_reporters_row}
use Rattle.weave_engine.specs.Seats.{Runs}
use Rattle.weave_engine.proofs.RowLaws.{Continues}
use Rattle.weave_engine.proofs.ReporterLaws.{rank}
use Rattle.weave_engine.proofs.reporter.reporter_row.Given as goal

abbrev pub invariant-turns : goal.invariant-turns
invariant-turns l = record {
  on : (n : Numbers) (seats : List Seat) → Continues (reporter_turn n) (ends_reporters_row n) (Runs n seats l.fn.core) (Runs n seats l.core);
}

abbrev pub decreases-turns : goal.decreases-turns
decreases-turns l = rank l.core.reporter.closing
