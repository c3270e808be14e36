use Rattle.std.proofs.Common.{arith}
use Rattle.phaser_words.proofs.Spaced.{words_copied}
use Rattle.phaser_words.proofs.spacing.spread.Goals as goal

pub returns-clause-words : goal.returns-clause-words
returns-clause-words c = words_copied c.args.labels c.loop-word.slots.items c.args.words.now c.requires.words (λ i low. c.loop-word.invariant.copied i (omega arith))
