use Rattle.std.proofs.Common.{◌≡◌, [], All}
use Rattle.recorder_core.specs.RecorderSeats.{writes, IsWriter}
use Rattle.recorder_bench.proofs.split_all.Given as goal

abbrev pub invariant-loop-made : goal.invariant-loop-made
invariant-loop-made l = record {
  seat : IsWriter l.recorder l.first;
  list : (writes l.first).list ≡ [];
  made : (writes l.first).made ≡ l.made;
  all : All (λ s. IsWriter l.recorder s.seat × ((writes s.seat).list ≡ [])) l.lanes.items;
}
