use Rattle.std.proofs.Common.{[], take, drop}
use Rattle.jm_base.specs.Run.{over}
use Rattle.jm_base.specs.Outside.{Account, Goes}
use Rattle.var_functions.specs.FunctionState.{IsLater}
use Rattle.trials.specs.Tried.{each_of, fine, giving}
use Rattle.sampler_pipeline.specs.SamplerPipeline.{by_kind, extracts, post_process}
use Rattle.sampler_pipeline.proofs.post.post_process.Given as goal

abbrev pub invariant-numbers : goal.invariant-numbers
invariant-numbers l = record {
  goes : (a : Account) → Goes a (post_process l.plan.elements l.reply l.fn.numbers l.fn.state) []
      (each_of (by_kind (giving tt) (extracts l.reply) l.plan.elements) (drop l.number-index l.fn.numbers) l.state) a;
  done : (a : Account) → Goes a (each_of (by_kind (giving tt) (extracts l.reply) l.plan.elements) (take l.number-index l.fn.numbers) l.fn.state) []
      (over (fine tt l.state)) a;
  later : IsLater l.fn.state.fns l.state.fns;
}
