use Rattle.std.proofs.Common.{rules}
use Rattle.phaser_words.proofs.SlotSteps.{watch_on_slot}
use Rattle.phaser_words.proofs.places.Words.look_stop.Goals as goal

pub load-requires : goal.load-requires
load-requires c = (search rules, search rules, watch_on_slot _ _ _ _ c.args.seat.now.writes)
