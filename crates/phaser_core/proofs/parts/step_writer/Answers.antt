use Rattle.std.proofs.Common.{arith}
use Rattle.phaser_core.specs.declared.view.Stage.TheVariants.{Out}
use Rattle.phaser_core.specs.declared.writer.WriterState.{WriterState}
use Rattle.phaser_core.specs.declared.writer.WriterState.TheVariants.{Live}
use Rattle.phaser_core.proofs.Plains.{fits_at, found_low}
use Rattle.phaser_core.proofs.parts.step_writer.Goals as goal

abbrev unread : WriterState
unread = Live 0 Out 0 0

pub step-requires : goal.step-requires
step-requires c = fits_at c.args.numbers.now c.args.writers.now c.from-index.result unread c.requires.fit (omega arith)

pub bounds-words-word : goal.bounds-words-word
bounds-words-word c = found_low c.args.numbers.now c.args.event.now c.args.writers.now c.from-index.result _ unread c.step.result c.in-Some.step c.step.ensures c.in-Some.is c.requires.fit (omega arith) c.requires.wide

pub bounds-words-word-2 : goal.bounds-words-word-2
bounds-words-word-2 c = found_low c.args.numbers.now c.args.event.now c.args.writers.now c.from-index.result _ unread c.step.result c.in-Some.step c.step.ensures c.in-Some.is c.requires.fit (omega arith) c.requires.wide

pub after-requires-clause-fits : goal.after-requires-clause-fits
after-requires-clause-fits c = fits_at c.args.numbers.now c.args.writers.now c.from-index.result unread c.requires.fit (omega arith)
