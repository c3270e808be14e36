use Rattle.std.proofs.Common.{◌≡◌, length}
use Rattle.recorder_core.specs.RecorderSeats.{writes, IsWriter}
use Rattle.recorder_bench.proofs.record_all.Given as goal

abbrev pub invariant-loop-n : goal.invariant-loop-n
invariant-loop-n g l = record {
  seat : IsWriter l.recorder l.seat;
  list : length (writes l.seat).list ≡ l.n;
}
