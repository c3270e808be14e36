use Rattle.std.proofs.Common.{sym}
use Rattle.scope_resolver.proofs.PlanLaws.{parent_before}
use Rattle.scope_resolver.proofs.levels.parent_in.Goals as goal

pub returns-in-Some-clause-earlier : goal.returns-in-Some-clause-earlier
returns-in-Some-clause-earlier c h = parent_before c.args.plan.now c.elements-elements.ensures.plan c.args.number c.in-Some.element.now (sym c.in-Some.ensures) h
