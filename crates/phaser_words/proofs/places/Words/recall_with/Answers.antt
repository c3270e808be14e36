use Rattle.std.proofs.Common.{rules}
use Rattle.phaser_words.proofs.SlotSteps.{recall_on_slot}
use Rattle.phaser_words.proofs.places.Words.recall_with.Goals as goal

pub load-requires : goal.load-requires
load-requires g c = (search rules, search rules, recall_on_slot _ _ _ _ _ c.requires.handed c.args.seat.now.reads)
