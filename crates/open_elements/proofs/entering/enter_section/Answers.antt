use Rattle.std.proofs.Common.{ap, ◌∙◌, refl, arith}
use Rattle.cursor_steps.specs.RunningChildren.{pass_over}
use Rattle.open_elements.proofs.EnterLaws.{section-enter, lock_at}
use Rattle.open_elements.proofs.PassLaws.{count-is}
use Rattle.open_elements.proofs.entering.enter_section.Goals as goal

pub returns-clause-came : goal.returns-clause-came
returns-clause-came c = λ e name failure below round s is.
    section-enter c.args.plan.now failure below c.args.child round e s c.over.result c.lock_of-lock.result name is.of_kind
    (c.over.ensures ∙ ap pass_over (c.requires.counted e is.there))
    (lock_at c.args.plan.now.elements c.args.child e name c.lock_of-lock.result is.there is.of_kind c.lock_of-lock.ensures)

pub returns-clause-fits : goal.returns-clause-fits
returns-clause-fits c = λ e name is.
    let p = ap (λ p. p.children) c.over.ensures in
    let n = c.requires.counted e is.there in
    let k = count-is c.args.plan.now.elements e in
    ((refl, (name, is.of_kind), omega (arith, p, n, k)), refl)

pub returns-clause-lock : goal.returns-clause-lock
returns-clause-lock c = λ e name is.
    (name, is.of_kind, lock_at c.args.plan.now.elements c.args.child e name c.lock_of-lock.result is.there is.of_kind c.lock_of-lock.ensures)
