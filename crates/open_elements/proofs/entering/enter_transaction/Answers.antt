use Rattle.std.proofs.Common.{ap, ◌∙◌, refl, arith}
use Rattle.cursor_steps.specs.RunningChildren.{pass_over}
use Rattle.open_elements.proofs.EnterLaws.{transaction-enter}
use Rattle.open_elements.proofs.PassLaws.{count-is}
use Rattle.open_elements.proofs.entering.enter_transaction.Goals as goal

pub returns-clause-came : goal.returns-clause-came
returns-clause-came c = λ plan e failure below round s is counted.
    transaction-enter plan failure below c.args.child round e s c.over.result c.none.result is.there
    (c.over.ensures ∙ ap pass_over counted) c.none.ensures

pub returns-clause-fits : goal.returns-clause-fits
returns-clause-fits c = λ elements e is counted.
    let p = ap (λ p. p.children) c.over.ensures in
    let k = count-is elements e in
    ((refl, is.of_kind, omega (arith, p, counted, k)), refl)

pub returns-clause-lock : goal.returns-clause-lock
returns-clause-lock c = λ elements kind. tt
