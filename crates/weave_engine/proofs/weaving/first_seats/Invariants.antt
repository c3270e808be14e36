use Rattle.std.proofs.Common.{◌≡◌, ◌≤◌, length}
use Rattle.element_tree.specs.Tree.{threads_of}
use Rattle.weave_engine.specs.Woven.{threads_to}
use Rattle.weave_engine.specs.Seats.{AreSeats, AllFresh, AllStand, first_outside}
use Rattle.weave_engine.proofs.weaving.first_seats.Given as goal

abbrev pub invariant-threads : goal.invariant-threads
invariant-threads l = record {
  most : l.thread ≤ l.thread-end;
  end : l.thread-end ≡ length (threads_of l.plan);
  count : length l.seats.items ≡ l.thread;
  fresh : AllFresh l.plan l.budget l.seats.items;
  stand : AllStand l.plan (first_outside l.plan) (record { seed = l.seed; props = l.props; budget = l.budget }) l.seats.items;
  seats : AreSeats 0 l.seats.items (threads_to l.plan (record { seed = l.seed; props = l.props; budget = l.budget }) l.thread);
}
