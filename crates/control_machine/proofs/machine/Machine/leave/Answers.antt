use Rattle.std.proofs.Common.{sym, subst}
use Rattle.control_machine.specs.Left.{StandsIn}
use Rattle.control_machine.proofs.HearingLaws.{left_stands}
use Rattle.control_machine.proofs.machine.Machine.leave.Goals as goal

pub returns-clause-stands : goal.returns-clause-stands
returns-clause-stands c = λ plan stands.
    rw (c.signal_left-self-inside.ensures) (left_stands plan c.args.how c.self.inside.position (subst (StandsIn plan) (sym c.self.view_is) stands))
