use Rattle.phaser_core.specs.declared.view.Numbers.{Numbers}
use Rattle.weave_engine.specs.Turns.{reporter_turn, idle_after}
use Rattle.weave_engine.specs.Seats.{Runs}
use Rattle.weave_engine.proofs.RowLaws.{Continues}
use Rattle.weave_engine.proofs.ReporterLaws.{rank}
use Rattle.weave_engine.proofs.reporter.close_open.Given as goal

abbrev pub invariant-turns : goal.invariant-turns
invariant-turns l = record {
  on : (n : Numbers) → Continues (reporter_turn n) (idle_after n) (Runs n l.fn.seats.items l.fn.core) (Runs n l.fn.seats.items l.core);
}

abbrev pub decreases-turns : goal.decreases-turns
decreases-turns l = rank l.core.reporter.closing
