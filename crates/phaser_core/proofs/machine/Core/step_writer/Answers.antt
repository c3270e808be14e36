use Rattle.std.proofs.Common.{arith}
use Rattle.phaser_core.proofs.Coherence.{writer_kept}
use Rattle.phaser_core.proofs.machine.Core.step_writer.Goals as goal

pub invariant_of-self : goal.invariant_of-self
invariant_of-self c = writer_kept c.self.inside.numbers c.self.inside.words.items c.as_mut_slice.result.now c.step_writer.new.words _ c.self.inside.writers.items c.as_mut_slice-2.result.now c.step_writer.new.writers _
    c.self.inside.reporter c.args.event.now c.args.writer _ _ c.self.invariant c.as_mut_slice.ensures.value c.as_mut_slice-2.ensures.value c.step_writer.ensures.words c.step_writer.ensures.writers (omega arith) (omega arith)
