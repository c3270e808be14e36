use Rattle.std.proofs.Common.{◌≡◌, length}
use Rattle.recorder_core.specs.RecorderSeats.{reports, numbers_of, IsReporter}
use Rattle.recorder_tests.proofs.recorder.close_often.Given as goal

abbrev pub invariant-loop-interval : goal.invariant-loop-interval
invariant-loop-interval g l = record {
  seat : IsReporter l.recorder l.seat;
  next : (reports l.seat).interval ≡ l.interval;
  rows : length l.report.rows ≡ (numbers_of l.recorder).labels;
}
