use Rattle.std.proofs.Common.{List, ◌∷◌, [], ◌++◌, ap, ◌∙◌}
use Rattle.phaser_core.specs.declared.view.Stage.TheVariants.{Out}
use Rattle.phaser_core.specs.declared.writer.WriterState.{WriterState}
use Rattle.phaser_core.specs.declared.writer.WriterState.TheVariants.{Live}
use Rattle.phaser_core.proofs.Makes.{made_coherent}
use Rattle.phaser_core.proofs.machine.Core.new.Goals as goal

pub invariant_of-result : goal.invariant_of-result
invariant_of-result c = made_coherent (record { labels = c.args.labels; writers = c.args.writers; budget = c.args.budget }) c.in_ok-words.words.items c.push.new.self.items c.new.result
    (c.requires.labels, c.requires.some, c.requires.most, c.requires.entries) c.in_ok-words.ensures
    (c.in_ok-push.ensures.items ∙ ap (λ (l : List WriterState). l ++ Live 0 Out 0 1 ∷ []) c.in_ok-states.ensures.items) c.new.ensures
