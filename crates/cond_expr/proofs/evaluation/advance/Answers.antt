use Rattle.std.proofs.Common.{rules}
use Rattle.cond_expr.proofs.EvaluationLaws.{value_advances, negate_advances, apply_advances}
use Rattle.cond_expr.proofs.evaluation.advance.Goals as goal

pub returns-in_ok-push-in-Value : goal.returns-in_ok-push-in-Value
returns-in_ok-push-in-Value c = rw c.in-Value.is (value_advances c.in-Value.value c.args.values.now.items c.push.new.self.items (search rules))

pub returns-in-Not : goal.returns-in-Not
returns-in-Not c = rw c.in-Not.is (negate_advances c.in-Not.at c.negate.result c.args.values.now.items c.negate.new.values.items c.negate.ensures)

pub returns-in-Apply : goal.returns-in-Apply
returns-in-Apply c = rw c.in-Apply.is (apply_advances c.in-Apply.at c.in-Apply.operator c.apply.result c.args.values.now.items c.apply.new.values.items c.apply.ensures)
