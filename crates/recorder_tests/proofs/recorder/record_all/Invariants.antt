use Rattle.std.proofs.Common.{◌≡◌, length}
use Rattle.recorder_core.specs.RecorderSeats.{writes, IsWriter}
use Rattle.recorder_tests.proofs.recorder.record_all.Given as goal

abbrev pub invariant-loop-n : goal.invariant-loop-n
invariant-loop-n l = record {
  seat : IsWriter l.recorder l.seat;
  list : length (writes l.seat).list ≡ l.n;
}
