use Rattle.recorder_core.specs.RecorderSeats.{reports, closes, IsClosing}
use Rattle.recorder_core.specs.Stands.{Same}
use Rattle.interval_reporter.proofs.closing.close_interval.Given as goal

abbrev pub invariant-loop : goal.invariant-loop
invariant-loop g l = record {
  seat : IsClosing l.recorder l.closing;
  same : Same (reports l.fn.seat) (closes l.closing);
}
