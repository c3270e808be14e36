use Rattle.std.specs.Prelude.{None}
use Rattle.jm_base.proofs.RunLaws.{goes-nothing}
use Rattle.trials.specs.Tried.{giving}
use Rattle.sampler_pipeline.specs.SamplerPipeline.{requests}
use Rattle.sampler_pipeline.proofs.StageLaws.{kind-there, kind-none}
use Rattle.var_functions.proofs.LaterLaws.{later_same}
use Rattle.sampler_pipeline.proofs.pre.request.Goals as goal

pub returns-in-Some-clause-came : goal.returns-in-Some-clause-came
returns-in-Some-clause-came g c =
    rw (kind-there (giving None) (requests c.args.plan.now.elements c.args.scope.now c.args.sampler) c.args.plan.now.elements c.args.sampler c.in-Some.element.now c.in-Some.ensures) c.request_by.ensures.came

pub returns-in-None-clause-came : goal.returns-in-None-clause-came
returns-in-None-clause-came g c =
    rw (kind-none (giving None) (requests c.args.plan.now.elements c.args.scope.now c.args.sampler) c.args.plan.now.elements c.args.sampler c.in-None.ensures) (goes-nothing _ _)

pub returns-in-None-clause-later : goal.returns-in-None-clause-later
returns-in-None-clause-later g c = later_same _
