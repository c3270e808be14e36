use Rattle.std.proofs.Common.{◌≡◌, ◌+◌, ◌-◌, ◌<◌, ◌≤◌, ◌++◌, map, length, slice_index_or, Some}
use Rattle.std.specs.Vec.Iter.{into_iter_items}
use Rattle.run_engine.specs.Joins.{number_of}
use Rattle.run_engine.proofs.opens.close_all.Given as goal

abbrev pub invariant-loop-job : goal.invariant-loop-job
invariant-loop-job g l =
    let rest = into_iter_items l.job-iterator in
    let account = g.W.Out.Outside.account in
    let all = l.fn.jobs.items in
    record {
      left : (i : _) (d : _) → i < length rest → (account (slice_index_or rest i d).out).origin ≡ Some (g.W.World.identity l.initial.world, (slice_index_or rest i d).number);
      closed : g.W.World.closed l.world ++ map number_of rest ≡ g.W.World.closed l.initial.world ++ map number_of l.fn.jobs.items;
      identity : g.W.World.identity l.world ≡ g.W.World.identity l.initial.world;
      tells : g.W.World.tells l.world ≡ g.W.World.tells l.initial.world;
      opened : g.W.World.opened l.world ≡ g.W.World.opened l.initial.world;
      few : length rest ≤ length all;
      same : (i : _) (d e : _) → i < length rest → slice_index_or rest i d ≡ slice_index_or all (length all - length rest + i) e;
      told : (i : _) → i < length all - length rest → (d : _) → g.W.World.told l.world i ≡ (account (slice_index_or all i d).out).told;
    }
