use Rattle.std.proofs.Common.{rules, arith}
use Rattle.phaser_words.proofs.Allowed.{makes_more}
use Rattle.phaser_words.proofs.Spaced.{split_on_slots}
use Rattle.phaser_words.proofs.places.Words.split.Goals as goal

pub split_seat-seat-requires : goal.split_seat-seat-requires
split_seat-seat-requires c = (search rules, search rules, split_on_slots _ _ _ _ _ (makes_more _ _ _ _ c.args.first.now.writes c.requires.first c.requires.room))

pub overflow_add-first : goal.overflow_add-first
overflow_add-first c = let m = c.args.first.now.maker in let r = c.requires.room in let s = c.args.self.now.sized in omega arith
