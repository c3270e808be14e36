use Rattle.std.proofs.Common.{rules}
use Rattle.phaser_words.proofs.SlotSteps.{enter_on_slot}
use Rattle.phaser_words.proofs.places.Words.enter.Goals as goal

pub fetch_add-found-requires : goal.fetch_add-found-requires
fetch_add-found-requires g c = (search rules, search rules, enter_on_slot _ _ _ _ c.args.seat.now.writes c.requires.out c.requires.room)
