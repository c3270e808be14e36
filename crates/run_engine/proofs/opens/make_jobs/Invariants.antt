use Rattle.std.proofs.Common.{◌≡◌, ◌+◌, ◌<◌, ◌≤◌, length, slice_index_or}
use Rattle.std.specs.Prelude.{vec_capacity}
use Rattle.std.specs.Vec.Iter.{into_iter_items}
use Rattle.std.specs.List.{range_with_len}
use Rattle.run_engine.specs.Asked.{options_of}
use Rattle.run_engine.specs.Made.{AllFresh, IsNew}
use Rattle.run_engine.specs.JobsRan.{AllAmong}
use Rattle.run_engine.specs.SectionsRun.{IsFirstSeat}
use Rattle.run_engine.proofs.opens.make_jobs.Given as goal

abbrev pub invariant-loop-seat : goal.invariant-loop-seat
invariant-loop-seat g l =
    let rest = into_iter_items l.seat-iterator in
    record {
      iterator : (goal.iterator-loop-seat g).can_next l.seat-iterator × (goal.iterator-loop-seat g).is_finite l.seat-iterator;
      at : l.number ≡ length l.jobs.items;
      count : l.number + length rest ≡ l.count;
      room : l.count ≤ vec_capacity l.jobs;
      left : (i : _) (d : _) → i < length rest → IsNew l.recorder l.count (l.number + i) (slice_index_or rest i d);
      made : AllFresh g.W.Out.Outside.account l.recorder l.ask.plan.now (options_of l.ask) (g.W.World.identity l.initial.world) (g.W.World.tells l.initial.world) l.count l.jobs.items;
      first : IsFirstSeat l.sections l.number l.first;
      among : AllAmong l.sections l.jobs.items;
      opened : g.W.World.opened l.world ≡ range_with_len 0 l.number;
      identity : g.W.World.identity l.world ≡ g.W.World.identity l.initial.world;
      tells : g.W.World.tells l.world ≡ g.W.World.tells l.initial.world;
      closed : g.W.World.closed l.world ≡ g.W.World.closed l.initial.world;
    }
