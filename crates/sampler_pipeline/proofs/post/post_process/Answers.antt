use Rattle.std.proofs.lemmas.Result.{err_from_is_err_and}
use Rattle.std.proofs.Common.{arith}
use Rattle.jm_base.proofs.RunLaws.{goes-nothing}
use Rattle.var_functions.proofs.LaterLaws.{later_same, later_then}
use Rattle.trials.specs.Tried.{giving}
use Rattle.trials.proofs.TrialLaws.{each-goes-at, each-refused-at, each-over}
use Rattle.sampler_pipeline.specs.SamplerPipeline.{by_kind, extracts}
use Rattle.std.specs.Prelude.{slice_get}
use Rattle.trials.proofs.CutLaws.{each-done-at, cut-at}
use Rattle.sampler_pipeline.specs.PipelineCut.{cut_at, cut_extracting}
use Rattle.sampler_pipeline.proofs.post.post_process.Goals as goal

pub numbers-init : goal.numbers-init
numbers-init c = record { goes = λ a. goes-nothing a _; done = λ a. goes-nothing a _; later = later_same _ }

pub numbers-preserved : goal.numbers-preserved
numbers-preserved c =
    record {
      goes = λ a.
          each-goes-at (by_kind (giving tt) (extracts c.args.reply.now) c.args.plan.now.elements) _ c.args.numbers.now c.numbers.number-index c.numbers.state c.extract_at.new.state _ c.numbers-test.true (c.numbers.invariant.goes a) (c.in_ok-extract_at.ensures.came a);
      done = λ a.
          each-done-at (by_kind (giving tt) (extracts c.args.reply.now) c.args.plan.now.elements) c.args.numbers.now c.numbers.number-index c.args.state.now c.numbers.state c.extract_at.new.state c.numbers-test.true (c.numbers.invariant.done a) (c.in_ok-extract_at.ensures.came a);
      later = later_then c.args.state.now.fns c.numbers.state.fns c.extract_at.new.state.fns c.numbers.invariant.later c.in_ok-extract_at.ensures.later;
    }

pub returns-in_err-extract_at-clause-came : goal.returns-in_err-extract_at-clause-came
returns-in_err-extract_at-clause-came c =
    let out = err_from_is_err_and c.from_residual.result c.from_residual.ensures.1 in
    rw (out.1, out.2) (λ a. each-refused-at (by_kind (giving tt) (extracts c.args.reply.now) c.args.plan.now.elements) _ c.args.numbers.now c.numbers.number-index c.numbers.state c.extract_at.new.state c.in_err-extract_at.field-0.0 c.numbers-test.true (c.numbers.invariant.goes a) (c.in_err-extract_at.ensures.came a))

pub returns-clause-came : goal.returns-clause-came
returns-clause-came c = λ a. each-over (by_kind (giving tt) (extracts c.args.reply.now) c.args.plan.now.elements) _ c.args.numbers.now c.numbers.number-index c.numbers.state (omega (arith, c.numbers-test.false)) (c.numbers.invariant.goes a)

pub returns-in_err-extract_at-clause-later : goal.returns-in_err-extract_at-clause-later
returns-in_err-extract_at-clause-later c = later_then c.args.state.now.fns c.numbers.state.fns c.extract_at.new.state.fns c.numbers.invariant.later c.in_err-extract_at.ensures.later

pub returns-in_err-extract_at-clause-cut : goal.returns-in_err-extract_at-clause-cut
returns-in_err-extract_at-clause-cut c =
    let out = err_from_is_err_and c.from_residual.result c.from_residual.ensures.1 in
    rw (out.1, out.2) (λ a none.
    cut-at a a a (by_kind (giving tt) (extracts c.args.reply.now) c.args.plan.now.elements) (λ n. cut_at (cut_extracting c.args.reply.now) (slice_get c.args.plan.now.elements n)) c.args.numbers.now c.numbers.number-index
    c.args.state.now c.numbers.state c.extract_at.new.state c.numbers-test.true (c.numbers.invariant.done a) (c.in_err-extract_at.ensures.cut a none))
