use Rattle.cond_expr.proofs.parse.Parser.take.Goals as goal

pub returns-in-Value : goal.returns-in-Value
returns-in-Value c = rw c.in-Value.is (λ s held. c.take_value.ensures c.args.at s held)

pub returns-in-Close : goal.returns-in-Close
returns-in-Close c = rw c.in-Close.is (λ s held. c.close.ensures c.args.at s held)
