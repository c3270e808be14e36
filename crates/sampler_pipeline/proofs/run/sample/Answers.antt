use Rattle.std.proofs.lemmas.Result.{err_from_is_err_and}
use Rattle.std.specs.Prelude.{Some, Ok}
use Rattle.jm_base.specs.Run.{over}
use Rattle.jm_base.proofs.RunLaws.{goes-nothing}
use Rattle.trials.specs.Tried.{fine, past_limit, giving}
use Rattle.trials.proofs.TrialLaws.{then-came, then-refused}
use Rattle.sampler_pipeline.specs.SamplerPipeline.{answering}
use Rattle.var_functions.proofs.LaterLaws.{later_same}
use Rattle.thread_vars.specs.declared.error.VarError.TheVariants.{NoMemory}
use Rattle.sampler_pipeline.proofs.StageLaws.{same-error}
use Rattle.sampler_pipeline.proofs.run.sample.Goals as goal

pub returns-in_ok-sample-in-Some-clause-came : goal.returns-in_ok-sample-in-Some-clause-came
returns-in_ok-sample-in-Some-clause-came c = λ a. rw c.in-Some.is
    (then-came a a _ (answering c.args.plan.now.elements c.args.scope.now c.args.sampler c.args.stamp c.in-Some.answer) (λ sample. giving (Some sample)) c.args.state.now c.sample_answer.new.state c.in_ok-sample-in-Some.sample
    (λ s. over (fine s c.sample_answer.new.state)) (over (past_limit c.sample_answer.new.state)) (Ok (Some c.in_ok-sample-in-Some.sample)) (c.in_ok-sample-in-Some.ensures.came a) (goes-nothing a _))

pub returns-in_err-sample-in-Some-clause-came : goal.returns-in_err-sample-in-Some-clause-came
returns-in_err-sample-in-Some-clause-came c =
    let out = err_from_is_err_and c.from_residual.result c.from_residual.ensures.1 in
    rw (out.1, out.2) (λ a. rw c.in-Some.is
    (then-refused a a (answering c.args.plan.now.elements c.args.scope.now c.args.sampler c.args.stamp c.in-Some.answer) (λ sample. giving (Some sample)) c.args.state.now c.sample_answer.new.state c.in_err-sample-in-Some.field-0.0 (c.in_err-sample-in-Some.ensures.came a)))

pub returns-in-None-clause-came : goal.returns-in-None-clause-came
returns-in-None-clause-came c = λ a. rw c.in-None.is (goes-nothing a _)

pub returns-in-None-clause-later : goal.returns-in-None-clause-later
returns-in-None-clause-later c = later_same _

pub returns-in_err-sample-in-Some-clause-cut : goal.returns-in_err-sample-in-Some-clause-cut
returns-in_err-sample-in-Some-clause-cut c =
    let out = err_from_is_err_and c.from_residual.result c.from_residual.ensures.1 in
    rw (out.1, out.2) (λ a none. rw c.in-Some.is (c.in_err-sample-in-Some.ensures.cut a (same-error c.in_err-sample-in-Some.field-0.0 NoMemory none)))
