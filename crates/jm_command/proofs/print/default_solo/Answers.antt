use Rattle.jm_command.proofs.TextLaws.{default_is}
use Rattle.jm_command.proofs.print.default_solo.Goals as goal

pub returns-in-Ok : goal.returns-in-Ok
returns-in-Ok c = default_is c.in-Ok.props c.in-Ok.ensures.pairs
