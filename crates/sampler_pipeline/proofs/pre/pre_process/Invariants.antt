use Rattle.std.proofs.Common.{[], take, drop}
use Rattle.jm_base.specs.Run.{over}
use Rattle.jm_base.specs.Outside.{Goes}
use Rattle.var_functions.specs.FunctionState.{IsLater}
use Rattle.trials.specs.Tried.{each_of, fine, giving}
use Rattle.sampler_pipeline.specs.SamplerPipeline.{by_kind, prepares, pre_process}
use Rattle.sampler_pipeline.proofs.pre.pre_process.Given as goal

abbrev pub invariant-numbers : goal.invariant-numbers
invariant-numbers g l = record {
  goes : Goes (g.O.Outside.account l.fn.outside) (pre_process l.plan.elements l.fn.numbers l.fn.state) []
      (each_of (by_kind (giving tt) prepares l.plan.elements) (drop l.number-index l.fn.numbers) l.state) (g.O.Outside.account l.outside);
  done : Goes (g.O.Outside.account l.fn.outside) (each_of (by_kind (giving tt) prepares l.plan.elements) (take l.number-index l.fn.numbers) l.fn.state) []
      (over (fine tt l.state)) (g.O.Outside.account l.outside);
  later : IsLater l.fn.state.fns l.state.fns;
}
