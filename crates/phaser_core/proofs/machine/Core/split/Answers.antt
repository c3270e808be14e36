use Rattle.std.proofs.Common.{List, ap, sym, refl, ◌∙◌}
use Rattle.phaser_core.specs.declared.writer.WriterState.{WriterState}
use Rattle.phaser_core.specs.Plain.{writer_at, split_of}
use Rattle.phaser_core.proofs.Coherence.{split_kept}
use Rattle.phaser_core.proofs.machine.Core.split.Goals as goal

pub invariant_of-self-2 : goal.invariant_of-self-2
invariant_of-self-2 c = split_kept c.self.inside.numbers c.self.inside.words.items c.self.inside.writers.items c.push.new.self.items c.self.inside.reporter (writer_at c.self.inside.writers.items 0) c.in-Some.left c.in-Some.new c.self.invariant refl
    (ap (λ (l : List WriterState). split_of c.self.inside.numbers (writer_at l 0)) (sym c.as_slice.ensures.value) ∙ sym c.in-Some.ensures.made) c.in_ok-push.ensures.items
