use Rattle.jm_base.proofs.RunLaws.{goes-nothing}
use Rattle.trials.specs.Tried.{giving}
use Rattle.sampler_pipeline.specs.SamplerPipeline.{prepares}
use Rattle.sampler_pipeline.proofs.StageLaws.{kind-there, kind-none}
use Rattle.var_functions.proofs.LaterLaws.{later_same}
use Rattle.sampler_pipeline.proofs.pre.prepare.Goals as goal

pub returns-in-Some-clause-came : goal.returns-in-Some-clause-came
returns-in-Some-clause-came g c = rw (kind-there (giving tt) prepares c.args.plan.now.elements c.args.number c.in-Some.element.now c.in-Some.ensures) c.prepare_by.ensures.came

pub returns-in-None-clause-came : goal.returns-in-None-clause-came
returns-in-None-clause-came g c = rw (kind-none (giving tt) prepares c.args.plan.now.elements c.args.number c.in-None.ensures) (goes-nothing _ _)

pub returns-in-None-clause-later : goal.returns-in-None-clause-later
returns-in-None-clause-later g c = later_same _

pub returns-in-Some-clause-cut : goal.returns-in-Some-clause-cut
returns-in-Some-clause-cut g c = λ none. rw (← c.in-Some.ensures) (c.prepare_by.ensures.cut none)
