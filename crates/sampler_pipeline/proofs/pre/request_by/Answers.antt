use Rattle.std.proofs.lemmas.Result.{err_from_is_err_and}
use Rattle.std.specs.Prelude.{Some, Ok, Err}
use Rattle.jm_base.specs.Run.{over}
use Rattle.jm_base.proofs.RunLaws.{goes-nothing}
use Rattle.trials.specs.Tried.{fine, past_limit, giving, text}
use Rattle.trials.proofs.TrialLaws.{then-came, then-refused, text-came}
use Rattle.jm_base.specs.declared.types.Request.TheVariants.{Script as ScriptRequest}
use Rattle.sampler_pipeline.proofs.StageLaws.{no-request}
use Rattle.var_functions.proofs.LaterLaws.{later_same}
use Rattle.sampler_pipeline.proofs.pre.request_by.Goals as goal

pub returns-in_ok-text-in-Script-clause-came : goal.returns-in_ok-text-in-Script-clause-came
returns-in_ok-text-in-Script-clause-came g c = rw c.in-Script.is (then-came _ _ _ (text c.in-Script.request) (λ t. giving (Some (ScriptRequest t))) c.args.state.now c.expand.new.state c.in_ok-text-in-Script.text
    (λ request. over (fine request c.expand.new.state)) (over (past_limit c.expand.new.state)) (Ok (Some (ScriptRequest c.in_ok-text-in-Script.text)))
    (text-came _ _ c.in-Script.request c.args.state.now c.expand.new.state (Ok c.in_ok-text-in-Script.text) c.in_ok-text-in-Script.ensures.came c.in_ok-text-in-Script.ensures.vars)
    (goes-nothing _ _))

pub returns-in_err-text-in-Script-clause-came : goal.returns-in_err-text-in-Script-clause-came
returns-in_err-text-in-Script-clause-came g c =
    let out = err_from_is_err_and c.from_residual.result c.from_residual.ensures.1 in
    rw (out.1, out.2) (rw c.in-Script.is (then-refused _ _ (text c.in-Script.request) (λ t. giving (Some (ScriptRequest t))) c.args.state.now c.expand.new.state c.in_err-text-in-Script.field-0.0
    (text-came _ _ c.in-Script.request c.args.state.now c.expand.new.state (Err c.in_err-text-in-Script.field-0.0) c.in_err-text-in-Script.ensures.came c.in_err-text-in-Script.ensures.vars)))

pub returns-in_default-clause-came : goal.returns-in_default-clause-came
returns-in_default-clause-came g c = rw (no-request c.args.plan.now.elements c.args.scope.now c.args.sampler c.args.kind.now c.in_default.not-Script c.in_default.not-Http) (goes-nothing _ _)

pub returns-in-Http-clause-came : goal.returns-in-Http-clause-came
returns-in-Http-clause-came g c = rw c.in-Http.is c.target_request.ensures.came

pub returns-in_default-clause-later : goal.returns-in_default-clause-later
returns-in_default-clause-later g c = later_same _
