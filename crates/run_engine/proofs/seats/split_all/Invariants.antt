use Rattle.std.proofs.Common.{◌≡◌, ◌+◌, ◌-◌, ◌<◌, length, slice_index_or}
use Rattle.run_engine.specs.Made.{IsNew}
use Rattle.run_engine.proofs.seats.split_all.Given as goal

abbrev pub invariant-loop-done : goal.invariant-loop-done
invariant-loop-done l = record {
  first : IsNew l.recorder (length l.rest.items + 1) 0 l.first;
  rest : (i : _) (d : _) → i < length l.rest.items → IsNew l.recorder l.count (i + 1) (slice_index_or l.rest.items i d);
  len : length l.rest.items ≡ l.done - 1;
}
