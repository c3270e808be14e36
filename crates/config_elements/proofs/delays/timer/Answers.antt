use Rattle.jm_base.proofs.RunLaws.{goes-nothing}
use Rattle.var_functions.proofs.LaterLaws.{later_same}
use Rattle.config_elements.proofs.DelayLaws.{no_timer}
use Rattle.config_elements.proofs.delays.timer.Goals as goal

pub returns-in_default-clause-came : goal.returns-in_default-clause-came
returns-in_default-clause-came g c = rw (no_timer c.args.kind.now c.in_default.not-ConstantTimer c.in_default.not-UniformTimer) (goes-nothing _ _)

pub returns-in_default-clause-later : goal.returns-in_default-clause-later
returns-in_default-clause-later g c = later_same _
