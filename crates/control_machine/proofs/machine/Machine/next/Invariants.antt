use Rattle.std.proofs.Common.{◌≡◌, ◌≤◌, []}
use Rattle.jm_base.specs.Outside.{Goes}
use Rattle.var_functions.specs.FunctionState.{IsLater}
use Rattle.control_machine.specs.Left.{Beside, StandsIn, left_of, state_at, open_lock}
use Rattle.control_machine.specs.Load.{load_of}
use Rattle.control_machine.proofs.machine.Machine.next.Given as goal

abbrev pub invariant-turns : goal.invariant-turns
invariant-turns g l = record {
  stands : StandsIn l.plan l.self-inside.position;
  fewer : l.self-inside.position.rounds ≤ l.fn.self.rounds;
  thread : (l.self-inside.position.group.element ≡ l.fn.self.group.element) × (l.self-inside.position.at_failure ≡ l.fn.self.at_failure);
  goes : (beside : Beside)
      → Goes (g.O.Outside.account l.fn.outside) (left_of l.plan l.fn.self (state_at l.fn.self beside l.fn.state)) [] (left_of l.plan l.self-inside.position (state_at l.self-inside.position beside l.state)) (g.O.Outside.account l.outside);
  lock : open_lock l.self-inside.position.stack.frames ≡ open_lock l.fn.self.stack.frames;
  later : IsLater l.fn.state.fns l.state.fns;
}

abbrev pub decreases-turns : goal.decreases-turns
decreases-turns g l = load_of l.plan.elements l.self-inside.position
