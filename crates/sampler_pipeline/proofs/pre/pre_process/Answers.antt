use Rattle.std.proofs.lemmas.Result.{err_from_is_err_and}
use Rattle.std.proofs.Common.{arith}
use Rattle.jm_base.proofs.RunLaws.{goes-nothing}
use Rattle.var_functions.proofs.LaterLaws.{later_same, later_then}
use Rattle.trials.specs.Tried.{giving}
use Rattle.trials.proofs.TrialLaws.{each-goes-at, each-refused-at, each-over}
use Rattle.sampler_pipeline.specs.SamplerPipeline.{by_kind, prepares}
use Rattle.std.specs.Prelude.{slice_get}
use Rattle.trials.proofs.CutLaws.{each-done-at, cut-at}
use Rattle.sampler_pipeline.specs.PipelineCut.{cut_at, cut_preparing}
use Rattle.sampler_pipeline.proofs.pre.pre_process.Goals as goal

pub numbers-init : goal.numbers-init
numbers-init g c = record { goes = goes-nothing _ _; done = goes-nothing _ _; later = later_same _ }

pub numbers-preserved : goal.numbers-preserved
numbers-preserved g c =
    record {
      goes =
          each-goes-at (by_kind (giving tt) prepares c.args.plan.now.elements) _ c.args.numbers.now c.numbers.number-index c.numbers.state c.prepare.new.state _ c.numbers-test.true c.numbers.invariant.goes c.in_ok-prepare.ensures.came;
      done = each-done-at (by_kind (giving tt) prepares c.args.plan.now.elements) c.args.numbers.now c.numbers.number-index c.args.state.now c.numbers.state c.prepare.new.state c.numbers-test.true c.numbers.invariant.done c.in_ok-prepare.ensures.came;
      later = later_then c.args.state.now.fns c.numbers.state.fns c.prepare.new.state.fns c.numbers.invariant.later c.in_ok-prepare.ensures.later;
    }

pub returns-in_err-prepare-clause-came : goal.returns-in_err-prepare-clause-came
returns-in_err-prepare-clause-came g c =
    let out = err_from_is_err_and c.from_residual.result c.from_residual.ensures.1 in
    rw (out.1, out.2) (each-refused-at (by_kind (giving tt) prepares c.args.plan.now.elements) _ c.args.numbers.now c.numbers.number-index c.numbers.state c.prepare.new.state c.in_err-prepare.field-0.0 c.numbers-test.true c.numbers.invariant.goes c.in_err-prepare.ensures.came)

pub returns-clause-came : goal.returns-clause-came
returns-clause-came g c = each-over (by_kind (giving tt) prepares c.args.plan.now.elements) _ c.args.numbers.now c.numbers.number-index c.numbers.state (omega (arith, c.numbers-test.false)) c.numbers.invariant.goes

pub returns-in_err-prepare-clause-later : goal.returns-in_err-prepare-clause-later
returns-in_err-prepare-clause-later g c = later_then c.args.state.now.fns c.numbers.state.fns c.prepare.new.state.fns c.numbers.invariant.later c.in_err-prepare.ensures.later

pub returns-in_err-prepare-clause-cut : goal.returns-in_err-prepare-clause-cut
returns-in_err-prepare-clause-cut g c =
    let out = err_from_is_err_and c.from_residual.result c.from_residual.ensures.1 in
    rw (out.1, out.2) (λ none.
    cut-at _ _ _ (by_kind (giving tt) prepares c.args.plan.now.elements) (λ n. cut_at cut_preparing (slice_get c.args.plan.now.elements n)) c.args.numbers.now c.numbers.number-index
    c.args.state.now c.numbers.state c.prepare.new.state c.numbers-test.true c.numbers.invariant.done (c.in_err-prepare.ensures.cut none))
