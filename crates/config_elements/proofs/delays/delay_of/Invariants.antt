use Rattle.std.proofs.Common.{◌≡◌, [], drop}
use Rattle.jm_base.specs.Outside.{Goes}
use Rattle.var_functions.specs.FunctionState.{IsLater}
use Rattle.config_elements.specs.TimerDelay.{delay, delay_after}
use Rattle.config_elements.proofs.delays.delay_of.Given as goal

abbrev pub invariant-timers : goal.invariant-timers
invariant-timers g l = record {
  goes : Goes (g.O.Outside.account l.fn.outside) (delay l.plan.elements l.fn.numbers l.fn.state) []
      (delay_after l.plan.elements l.sum (drop l.number-index l.fn.numbers) l.state) (g.O.Outside.account l.outside);
  later : IsLater l.fn.state.fns l.state.fns;
  vars : l.state.vars ≡ l.fn.state.vars;
}
