use Rattle.std.proofs.Common.{◌∙◌}
use Rattle.scope_resolver.proofs.ScopeLaws.{as_scope, members_of, order_of}
use Rattle.scope_resolver.proofs.scope.package.Goals as goal

pub returns-clause-package : goal.returns-clause-package
returns-clause-package c =
    as_scope c.args.plan.now.elements c.args.sampler c.as_slice-numbers.result.now _ _ _ _ _ _ (c.as_slice-numbers.ensures.value ∙ c.in_ok-applying.ensures)
    c.in_ok-of_class.ensures c.in_ok-of_class-2.ensures c.in_ok-of_class-3.ensures c.in_ok-of_class-4.ensures c.in_ok-of_class-5.ensures c.in_ok-of_class-6.ensures

pub returns-clause-members : goal.returns-clause-members
returns-clause-members c = members_of c.args.plan.now c.elements-elements.ensures.plan c.args.sampler _ (returns-clause-package c)

pub returns-clause-order : goal.returns-clause-order
returns-clause-order c = order_of c.args.plan.now c.elements-elements.ensures.plan c.args.sampler _ (returns-clause-package c)
