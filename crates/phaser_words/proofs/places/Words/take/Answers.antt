use Rattle.std.proofs.Common.{rules, sym, ◌∙◌, subst}
use Rattle.phaser_core.specs.Cells.{cell_at}
use Rattle.phaser_words.specs.RecorderKinds.{HasCell}
use Rattle.phaser_words.specs.WordSeats.{numbers}
use Rattle.phaser_words.proofs.SlotSteps.{take_on_slot, slot_inside, cell_low}
use Rattle.phaser_words.proofs.places.Words.take.Goals as goal

pub cell_of-slot-requires : goal.cell_of-slot-requires
cell_of-slot-requires c = subst (HasCell (numbers c.args.self.now).labels) (c.args.seat.now.staged ∙ c.in-Harvest.is) c.requires.left

pub swap-found-requires : goal.swap-found-requires
swap-found-requires c =
    let harvest = c.args.seat.now.staged ∙ c.in-Harvest.is in
    let low = subst (HasCell (numbers c.args.self.now).labels) harvest c.requires.left in
    let here = c.cell_of-slot.ensures in (
      search rules,
      slot_inside _ _ _ _ c.args.self.now.wide (cell_low (numbers c.args.self.now) c.args.seat.now.interval c.in-Harvest.taken low) here,
      take_on_slot _ _ _ _ c.args.seat.now.interval _ _ _ c.args.seat.now.reads harvest low here
          (λ i. cell_at (sym c.requires.seat.1 i) (sym c.args.seat.now.counted i) c.in-Harvest.taken) c.vacant.ensures,
    )
