use Rattle.plan_maker.proofs.Answered.{gives_plan, gives_memory}
use Rattle.plan_maker.proofs.PlanLaws.{tree_read}
use Rattle.plan_maker.proofs.making.built.Goals as goal

pub returns-clause-plan : goal.returns-clause-plan
returns-clause-plan c = gives_plan _ _ _ (tree_read _ c.args.size c.requires.tree c.requires.few) c.build.ensures.accepted

pub returns-clause-memory : goal.returns-clause-memory
returns-clause-memory c = gives_memory _ _ _ _ _ (tree_read _ c.args.size c.requires.tree c.requires.few) c.build.ensures.reading
