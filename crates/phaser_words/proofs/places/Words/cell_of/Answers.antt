use Rattle.std.proofs.Common.{ℕ, sym, ap, ◌∙◌, arith}
use Rattle.phaser_core.specs.Cells.{cell_at}
use Rattle.phaser_words.specs.Spacing.{slot}
use Rattle.phaser_words.proofs.places.Words.cell_of.Goals as goal

pub cell_word-requires-clause-labels : goal.cell_word-requires-clause-labels
cell_word-requires-clause-labels c = let labels = c.args.self.now.labelled in let low = c.args.self.now.sized.0 in omega arith

pub cell_word-requires-clause-cell : goal.cell_word-requires-clause-cell
cell_word-requires-clause-cell c = let labels = c.args.self.now.labelled in let low = c.requires in omega arith

pub returns : goal.returns
returns c = c.slot_of.ensures ∙ ap slot c.cell_word.ensures ∙ ap (λ (l : ℕ). slot (cell_at l c.args.interval c.args.cell)) (sym c.args.self.now.labelled)
