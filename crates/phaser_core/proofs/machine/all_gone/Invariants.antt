use Rattle.std.proofs.Common.{◌≡◌, drop}
use Rattle.phaser_core.specs.CoreShape.{all_gone}
use Rattle.phaser_core.proofs.machine.all_gone.Given as goal

abbrev pub invariant-loop-writer : goal.invariant-loop-writer
invariant-loop-writer l = all_gone l.writers ≡ all_gone (drop l.writer-index l.writers)
