use Rattle.std.proofs.Common.{ap, ◌∙◌, subst}
use Rattle.jm_base.specs.Run.{over}
use Rattle.var_functions.specs.Came.{CameTo}
use Rattle.trials.specs.Tried.{fine, past_limit}
use Rattle.config_elements.specs.TimerDelay.{delay}
use Rattle.config_elements.proofs.delays.delay.Goals as goal

pub returns-clause-came : goal.returns-clause-came
returns-clause-came g c = subst (λ ns. CameTo (g.O.Outside.account c.args.outside.now) (delay c.args.plan.now.elements ns c.args.state.now) (g.O.Outside.account c.delay_of.new.outside)
    (λ ms. over (fine ms c.delay_of.new.state)) (over (past_limit c.delay_of.new.state)) c.delay_of.result) (c.as_slice.ensures.value ∙ ap (λ s. s.timers) c.scope.view_is) c.delay_of.ensures.came
