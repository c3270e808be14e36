use Rattle.std.proofs.Common.{◌≡◌, ℕ, []}
use Rattle.jm_base.specs.Outside.{Goes}
use Rattle.config_elements.specs.RoundStart.{feeds_of}
use Rattle.control_machine.specs.Left.{StandsIn, left_of, state_at, open_lock}
use Rattle.thread_machine.proofs.runner.walk.Given as goal

abbrev pub invariant-moves : goal.invariant-moves
invariant-moves g l = record {
  stands : StandsIn l.plan l.machine;
  feeds : l.config.feeds ≡ feeds_of l.plan.elements l.machine.group.element;
  lock : open_lock l.machine.stack.frames ≡ open_lock l.fn.machine.stack.frames;
  goes : (units : ℕ)
      → Goes (g.O.Outside.account l.fn.outside) (left_of l.plan l.fn.machine (state_at l.fn.machine (record { units = units; config = l.fn.config.places }) l.fn.user)) []
      (left_of l.plan l.machine (state_at l.machine (record { units = units; config = l.config.places }) l.user)) (g.O.Outside.account l.outside);
}

abbrev pub decreases-moves : goal.decreases-moves
decreases-moves g l = l.machine.rounds
