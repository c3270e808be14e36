use Rattle.std.proofs.Common.{rules, refl}
use Rattle.cond_expr.specs.declared.parse.Parser.{Parser}
use Rattle.cond_expr.proofs.ParserLaws.{negation_closes, operator_closes}
use Rattle.cond_expr.proofs.parse.Parser.close_top.Goals as goal

pub returns-in_ok-push-in-Some-Not-clause-closes :
    goal.returns-in_ok-push-in-Some-Not-clause-closes
returns-in_ok-push-in-Some-Not-clause-closes c = λ f fs r positive.
    let new : Parser = record { steps = c.push.new.self; pending = c.pop.new.self; depth = c.saturating_sub-self.result; awaiting = c.args.self.now.awaiting } in
    negation_closes c.args.self.now new c.pop.new.self.items c.in-Some-Not.at (search rules) (search rules) refl (search rules) refl f fs r

pub returns-in_ok-push-in-Some-Operator-clause-closes :
    goal.returns-in_ok-push-in-Some-Operator-clause-closes
returns-in_ok-push-in-Some-Operator-clause-closes c = λ f fs r positive.
    let new : Parser = record { steps = c.push-in-Some-Operator.new.self; pending = c.pop.new.self; depth = c.args.self.now.depth; awaiting = c.args.self.now.awaiting } in
    operator_closes c.args.self.now new c.pop.new.self.items c.in-Some-Operator.at c.in-Some-Operator.operator (search rules) (search rules) refl refl refl f fs r
