use Rattle.std.proofs.lemmas.Result.{err_from_is_err_and}
use Rattle.std.specs.Prelude.{Ok, Option}
use Rattle.std.specs.Option.{option_map}
use Rattle.jm_base.specs.declared.types.Request.{Request}
use Rattle.jm_base.specs.Run.{over}
use Rattle.jm_base.proofs.RunLaws.{goes-nothing}
use Rattle.trials.specs.Tried.{fine, past_limit, giving}
use Rattle.trials.proofs.TrialLaws.{then-came, then-refused, then-memory}
use Rattle.http_settings.specs.RequestSettings.{settings}
use Rattle.http_settings.specs.Targets.{target_of, http_request}
use Rattle.sampler_pipeline.proofs.pre.target_request.Goals as goal

pub returns-clause-came : goal.returns-clause-came
returns-clause-came g c =
    let new = c.settings.new.state in
    then-came _ _ _ (settings c.args.plan.now.elements c.args.scope.now.config c.args.sampler) (λ s. giving (option_map http_request (target_of s))) c.args.state.now new c.in_ok-found.found
    (λ (request : Option Request). over (fine request new)) (over (past_limit new)) (Ok c.in_ok-request.request) c.in_ok-found.ensures.came
    (rw c.in_ok-request.ensures (goes-nothing _ _))

pub returns-in_err-request-clause-came : goal.returns-in_err-request-clause-came
returns-in_err-request-clause-came g c =
    let out = err_from_is_err_and c.from_residual-in_err-request.result c.from_residual-in_err-request.ensures.1 in
    rw (out.1, out.2) (then-memory _ _ (settings c.args.plan.now.elements c.args.scope.now.config c.args.sampler) (λ s. giving (option_map http_request (target_of s))) c.args.state.now c.settings.new.state c.in_ok-found.found
    (over (past_limit c.settings.new.state)) c.in_ok-found.ensures.came)

pub returns-in_err-found-clause-came : goal.returns-in_err-found-clause-came
returns-in_err-found-clause-came g c =
    let out = err_from_is_err_and c.from_residual.result c.from_residual.ensures.1 in
    rw (out.1, out.2) (then-refused _ _ (settings c.args.plan.now.elements c.args.scope.now.config c.args.sampler) (λ s. giving (option_map http_request (target_of s))) c.args.state.now c.settings.new.state c.in_err-found.field-0.0
    c.in_err-found.ensures.came)
