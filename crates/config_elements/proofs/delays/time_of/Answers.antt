use Rattle.std.proofs.lemmas.Result.{err_from_is_err_and}
use Rattle.std.specs.Prelude.{Ok, Err}
use Rattle.jm_base.specs.Run.{over}
use Rattle.jm_base.proofs.RunLaws.{goes-nothing}
use Rattle.trials.specs.Tried.{fine, past_limit, giving, text}
use Rattle.trials.proofs.TrialLaws.{then-came, then-refused, text-came}
use Rattle.config_elements.specs.TimerDelay.{milliseconds}
use Rattle.config_elements.proofs.delays.time_of.Goals as goal

pub returns-clause-came : goal.returns-clause-came
returns-clause-came g c = then-came _ _ _ (text c.args.template.now) (λ t. giving (milliseconds t)) c.args.state.now c.expand.new.state c.in_ok-text.text
    (λ ms. over (fine ms c.expand.new.state)) (over (past_limit c.expand.new.state)) (Ok c.milliseconds.result)
    (text-came _ _ c.args.template.now c.args.state.now c.expand.new.state (Ok c.in_ok-text.text) c.in_ok-text.ensures.came c.in_ok-text.ensures.vars)
    (rw (c.milliseconds.ensures, c.bytes.ensures) (goes-nothing _ _))

pub returns-in_err-text-clause-came : goal.returns-in_err-text-clause-came
returns-in_err-text-clause-came g c =
    let out = err_from_is_err_and c.from_residual.result c.from_residual.ensures.1 in
    rw (out.1, out.2) (then-refused _ _ (text c.args.template.now) (λ t. giving (milliseconds t)) c.args.state.now c.expand.new.state c.in_err-text.field-0.0
    (text-came _ _ c.args.template.now c.args.state.now c.expand.new.state (Err c.in_err-text.field-0.0) c.in_err-text.ensures.came c.in_err-text.ensures.vars))
