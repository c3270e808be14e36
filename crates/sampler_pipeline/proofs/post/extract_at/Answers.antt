use Rattle.jm_base.proofs.RunLaws.{goes-nothing}
use Rattle.trials.specs.Tried.{giving}
use Rattle.std.proofs.Common.{sym}
use Rattle.sampler_pipeline.specs.SamplerPipeline.{extracts}
use Rattle.sampler_pipeline.proofs.StageLaws.{kind-there, kind-none}
use Rattle.var_functions.proofs.LaterLaws.{later_same}
use Rattle.sampler_pipeline.proofs.post.extract_at.Goals as goal

pub extract-requires : goal.extract-requires
extract-requires c = record { forms = c.elements-elements.ensures.plan.forms c.args.number c.in-Some.element.now (sym c.in-Some.ensures) }

pub returns-in-Some-clause-came : goal.returns-in-Some-clause-came
returns-in-Some-clause-came c = λ a. rw (kind-there (giving tt) (extracts c.args.reply.now) c.args.plan.now.elements c.args.number c.in-Some.element.now c.in-Some.ensures) (c.extract.ensures.came a)

pub returns-in-None-clause-came : goal.returns-in-None-clause-came
returns-in-None-clause-came c = λ a. rw (kind-none (giving tt) (extracts c.args.reply.now) c.args.plan.now.elements c.args.number c.in-None.ensures) (goes-nothing a _)

pub returns-in-None-clause-later : goal.returns-in-None-clause-later
returns-in-None-clause-later c = later_same _

pub returns-in-Some-clause-cut : goal.returns-in-Some-clause-cut
returns-in-Some-clause-cut c = λ a none. rw (← c.in-Some.ensures) (c.extract.ensures.cut a none)
