use Rattle.std.proofs.Common.{rules, sym}
use Rattle.phaser_words.specs.WordSeats.{numbers}
use Rattle.phaser_words.proofs.SlotSteps.{read_on_slot, slot_inside, cell_low}
use Rattle.phaser_words.proofs.places.Words.read_with.Goals as goal

pub load-requires : goal.load-requires
load-requires g c = (
  search rules,
  slot_inside _ _ _ _ c.args.self.now.wide (cell_low (numbers c.args.self.now) c.args.seat.now.interval c.args.cell c.requires.cell) c.cell_of-slot.ensures,
  read_on_slot _ _ _ _ c.args.seat.now.interval _ _ _ c.requires.handed c.args.seat.now.reads c.requires.idle c.requires.joined c.requires.cell c.requires.seat.1
      c.cell_of-slot.ensures (sym c.args.seat.now.counted),
)
