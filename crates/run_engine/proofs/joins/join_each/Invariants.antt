use Rattle.std.proofs.Common.{◌≡◌, ◌+◌, ◌<◌, ◌≤◌, ◌++◌, true, map, length, slice_index_or}
use Rattle.std.specs.Prelude.{vec_capacity}
use Rattle.std.specs.Vec.Iter.{into_iter_items}
use Rattle.element_tree.specs.Names.{labels_of}
use Rattle.recorder_core.specs.RecorderSeats.{reports, IsReporter}
use Rattle.run_engine.specs.Asked.{options_of}
use Rattle.run_engine.specs.Followed.{AllFollow}
use Rattle.run_engine.specs.Joins.{joined_of, trace_of, number_of, OnlyJoined, IsDone, AllLabelled}
use Rattle.critical_section.specs.SectionSeats.{view_of}
use Rattle.run_engine.specs.SectionsRun.{sections_of_all, AllRise, AllLeave, HasTaken}
use Rattle.run_engine.proofs.joins.join_each.Given as goal

abbrev pub invariant-loop-job : goal.invariant-loop-job
invariant-loop-job g l =
    let rest = into_iter_items l.job-iterator in
    let account = g.W.Out.Outside.account in
    record {
      seat : IsReporter l.recorder l.seat;
      left : (i : _) (d : _) → i < length rest → IsDone account l.recorder l.ask.plan.now (options_of l.ask) (g.W.World.identity l.initial.world) (g.W.World.tells l.initial.world) l.count (length l.traces.items + i) (slice_index_or rest i d);
      among : (i : _) (d : _) → i < length rest → (slice_index_or rest i d).sections.now ≡ l.sections;
      taken : HasTaken l.sections (view_of l.initial.first) (sections_of_all l.traces.items) l.first;
      rising : AllRise l.traces.items;
      sections : AllLeave l.traces.items;
      room : length l.traces.items + length rest ≤ vec_capacity l.traces;
      only : OnlyJoined (reports l.initial.seat) (reports l.seat);
      joined : (reports l.seat).joined ++ map joined_of rest ≡ (reports l.initial.seat).joined ++ map joined_of l.fn.jobs.items;
      traces : l.traces.items ++ map trace_of rest ≡ map trace_of l.fn.jobs.items;
      labels : AllLabelled (length (labels_of l.ask.plan.now.elements)) l.traces.items;
      follows : g.W.World.tells l.initial.world ≡ true → AllFollow l.ask.plan.now (options_of l.ask) (g.W.World.told l.world) l.traces.items;
      closed : g.W.World.closed l.world ++ map number_of rest ≡ g.W.World.closed l.initial.world ++ map number_of l.fn.jobs.items;
      identity : g.W.World.identity l.world ≡ g.W.World.identity l.initial.world;
      tells : g.W.World.tells l.world ≡ g.W.World.tells l.initial.world;
      opened : g.W.World.opened l.world ≡ g.W.World.opened l.initial.world;
    }
