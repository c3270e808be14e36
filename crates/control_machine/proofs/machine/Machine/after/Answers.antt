use Rattle.std.proofs.Common.{◌∙◌, ap, sym, subst}
use Rattle.control_machine.specs.Left.{StandsIn, open_lock}
use Rattle.control_machine.proofs.HearingLaws.{told_stands, open_lock_hearing}
use Rattle.control_machine.proofs.machine.Machine.after.Goals as goal

pub returns-clause-stands : goal.returns-clause-stands
returns-clause-stands c = λ plan stands.
    rw (c.hear.ensures, c.after_sample-self-inside.ensures) (told_stands plan c.args.sample.now c.self.inside.position (subst (StandsIn plan) (sym c.self.view_is) stands))

pub returns-clause-lock : goal.returns-clause-lock
returns-clause-lock c = rw c.hear.ensures
    (open_lock_hearing c.args.sample.now c.self.inside.position.stack.frames ∙ ap (λ p. open_lock p.stack.frames) c.self.view_is)
