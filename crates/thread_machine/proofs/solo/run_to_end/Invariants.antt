use Rattle.std.proofs.Common.{◌≡◌, ◌≤◌, ◌+◌, false, None, [], length}
use Rattle.jm_base.specs.Outside.{Account}
use Rattle.std.specs.Prelude.{All}
use Rattle.element_tree.specs.Names.{locks_of}
use Rattle.jm_meaning.specs.Beginning.{Options}
use Rattle.thread_machine.specs.Bare.{IsCountedIn}
use Rattle.thread_machine.specs.Inside.{owed_count}
use Rattle.thread_machine.specs.SectionOrder.{PlacedAfter}
use Rattle.thread_machine.specs.Standing.{Stands}
use Rattle.thread_machine.proofs.Counts.{Spent}
use Rattle.thread_machine.proofs.PlaceLaws.{AreNext}
use Rattle.thread_machine.proofs.solo.run_to_end.Given as goal

abbrev pub invariant-steps : goal.invariant-steps
invariant-steps g l = record {
  owed : l.worker.owed ≡ None;
  entering : l.worker.entering ≡ None;
  going : l.worker.ended ≡ false;
  plan : l.worker.plan ≡ l.fn.worker.plan;
  thread : l.worker.thread ≡ l.fn.worker.thread;
  counted : All (IsCountedIn 0) l.fn.worker.trace → All (IsCountedIn 0) l.worker.trace;
  spent : Spent l.worker ≤ l.fn.worker.units;
  long : length l.places ≡ length (locks_of l.fn.worker.plan.elements);
  next : AreNext l.places l.worker.trace;
  placed : PlacedAfter [] l.worker.trace;
  stands : (start : Account) (options : Options) → Stands start (g.O.Outside.account l.fn.outside) options l.fn.worker → Stands start (g.O.Outside.account l.outside) options l.worker;
}

-- a section that is entered uses a unit
abbrev pub decreases-steps : goal.decreases-steps
decreases-steps g l = l.worker.units + l.worker.units + owed_count l.worker.section
