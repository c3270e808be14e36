use Rattle.std.proofs.Common.{◌≡◌, ◌++◌, length, None}
use Rattle.std.specs.Prelude.{All}
use Rattle.std.specs.Vec.Iter.{into_iter_items}
use Rattle.element_tree.specs.Names.{labels_of}
use Rattle.thread_machine.specs.Bare.{IsLabelled}
use Rattle.thread_machine.specs.SectionOrder.{LeavesAll}
use Rattle.weave_engine.specs.Seats.{AllOf, AllClosed, traces_in}
use Rattle.weave_engine.proofs.weaving.traces_of.Given as goal

abbrev pub invariant-seats : goal.invariant-seats
invariant-seats l = record {
  all : l.traces.items ++ traces_in (into_iter_items l.seat-iterator) ≡ traces_in l.fn.seats.items;
  plans : AllOf l.plan (into_iter_items l.seat-iterator);
  closed : AllClosed (into_iter_items l.seat-iterator);
  labelled : All (All (IsLabelled (length (labels_of l.plan.elements)))) l.traces.items;
  sections : All LeavesAll l.traces.items;
}
