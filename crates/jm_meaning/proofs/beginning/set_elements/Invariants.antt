use Rattle.std.proofs.Common.{[], take, drop}
use Rattle.jm_base.specs.Run.{over}
use Rattle.jm_base.specs.Outside.{Goes}
use Rattle.var_functions.specs.FunctionState.{IsLater}
use Rattle.jm_meaning.specs.State.{Own, state_of, normal}
use Rattle.jm_meaning.specs.Beginning.{set_all, user_variables}
use Rattle.jm_meaning.proofs.beginning.set_elements.Given as goal

abbrev pub invariant-loop-element : goal.invariant-loop-element
invariant-loop-element g l = record {
  goes : (own : Own) → Goes (g.O.Outside.account l.fn.outside) (set_all (user_variables l.fn.elements) (state_of l.fn.state own)) []
      (set_all (user_variables (drop l.element-index l.fn.elements)) (state_of l.state own)) (g.O.Outside.account l.outside);
  done : (own : Own) → Goes (g.O.Outside.account l.fn.outside) (set_all (user_variables (take l.element-index l.fn.elements)) (state_of l.fn.state own)) []
      (over (normal (state_of l.state own))) (g.O.Outside.account l.outside);
  later : IsLater l.fn.state.fns l.state.fns;
}
