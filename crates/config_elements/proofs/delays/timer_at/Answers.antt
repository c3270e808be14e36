use Rattle.jm_base.proofs.RunLaws.{goes-nothing}
use Rattle.var_functions.proofs.LaterLaws.{later_same}
use Rattle.config_elements.proofs.DelayLaws.{no_element}
use Rattle.config_elements.proofs.delays.timer_at.Goals as goal

pub returns-in-None-clause-came : goal.returns-in-None-clause-came
returns-in-None-clause-came g c = rw (no_element c.args.plan.now.elements c.args.number c.in-None.ensures) (goes-nothing _ _)

pub returns-in-None-clause-later : goal.returns-in-None-clause-later
returns-in-None-clause-later g c = later_same _
