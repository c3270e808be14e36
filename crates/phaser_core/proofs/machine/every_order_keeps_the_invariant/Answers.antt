use Rattle.phaser_core.proofs.Every.{every_order_keeps}
use Rattle.phaser_core.proofs.machine.every_order_keeps_the_invariant.Goals as goal

pub returns : goal.returns
returns c = every_order_keeps
