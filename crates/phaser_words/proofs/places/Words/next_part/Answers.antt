use Rattle.std.proofs.Common.{◌%◌, ◌<◌, ℕ, ap, sym, subst, ◌∙◌}
use Rattle.phaser_core.specs.Cells.{place, part}
use Rattle.phaser_words.specs.Spacing.{slot}
use Rattle.phaser_words.proofs.Allowed.{column_low, steps_low}
use Rattle.phaser_words.proofs.places.Words.next_part.Goals as goal

pub column_of-column-requires : goal.column_of-column-requires
column_of-column-requires c = steps_low c.args.entry.now c.args.done c.requires.left

pub cell_slot-slot-requires : goal.cell_slot-slot-requires
cell_slot-slot-requires c = subst (λ (x : ℕ). x < 6) (sym c.column_of-column.ensures) (column_low c.args.entry.now c.args.done c.requires.left)

pub returns-clause-slot : goal.returns-clause-slot
returns-clause-slot c = c.cell_slot-slot.ensures ∙ (λ i. slot (place (sym c.args.self.now.labelled i) (c.args.interval % 2) (sym c.args.seat.now.numbered i) c.args.entry.now.label (c.column_of-column.ensures i)))

pub returns-clause-amount : goal.returns-clause-amount
returns-clause-amount c = c.part_of.ensures ∙ ap (λ (x : ℕ). part x c.args.entry.now) c.column_of-column.ensures
