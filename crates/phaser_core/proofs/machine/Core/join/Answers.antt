use Rattle.std.proofs.Common.{◌&&◌, arith}
use Rattle.phaser_core.specs.Plain.{is_out, writer_at}
use Rattle.phaser_core.proofs.Coherence.{join_kept}
use Rattle.phaser_core.proofs.machine.Core.join.Goals as goal

pub invariant_of-self : goal.invariant_of-self
invariant_of-self c = join_kept c.self.inside.numbers c.self.inside.words.items c.self.inside.writers.items c.as_mut_slice.result.now c.join_writer.new.writers _ c.self.inside.reporter c.args.writer _ (c.is_idle-idle.result && is_out (writer_at c.as_mut_slice.result.now c.args.writer)) c.self.invariant c.as_mut_slice.ensures.value c.join_writer.ensures.writers (omega arith)
