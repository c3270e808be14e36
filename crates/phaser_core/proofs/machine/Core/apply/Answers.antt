use Rattle.phaser_core.proofs.Keeping.{ok_keeps}
use Rattle.phaser_core.proofs.machine.Core.apply.Goals as goal

pub returns-clause-keeps : goal.returns-clause-keeps
returns-clause-keeps c = ok_keeps c.step_actor.result c.args.self.now c.step_actor.new.self c.args.event c.step_actor.ensures.step
