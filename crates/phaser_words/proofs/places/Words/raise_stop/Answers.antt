use Rattle.std.proofs.Common.{rules}
use Rattle.phaser_words.proofs.SlotSteps.{raise_on_slot}
use Rattle.phaser_words.proofs.places.Words.raise_stop.Goals as goal

pub swap-requires : goal.swap-requires
swap-requires c = (search rules, search rules, raise_on_slot _ _ _ _ c.args.seat.now.writes)
