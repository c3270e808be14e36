use Rattle.std.proofs.Common.{rules}
use Rattle.phaser_words.proofs.Allowed.{takes_in}
use Rattle.phaser_words.proofs.Spaced.{join_on_slots}
use Rattle.phaser_words.proofs.places.Words.join.Goals as goal

pub join_seat-requires : goal.join_seat-requires
join_seat-requires c = (search rules, search rules, search rules, search rules, join_on_slots _ _ _ _ _ _ _ (takes_in _ _ _ _ _ _ _ c.args.into.now.reads c.args.gone.writes c.requires.out))
