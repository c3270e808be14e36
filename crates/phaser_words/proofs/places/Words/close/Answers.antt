use Rattle.std.proofs.Common.{ℕ, subst}
use Rattle.std.specs.Slots.{slots_items}
use Rattle.phaser_words.specs.Spacing.{words_in}
use Rattle.phaser_words.specs.WordSeats.{numbers, reading, Ends}
use Rattle.phaser_words.proofs.Spaced.{closes}
use Rattle.phaser_words.proofs.places.Words.close.Goals as goal

pub returns : goal.returns
returns c =
    subst (λ (labels : ℕ). Ends (numbers c.args.self) (words_in labels (slots_items c.close_with-closed.result.words)) (reading c.args.seat)) c.args.self.labelled
    (closes c.args.self.table.shared.key c.args.seat.seat.id c.args.seat.seat.me.0 _ (slots_items c.close_with-closed.result.words) (slots_items c.close_with-closed.result.slots) c.close_with-closed.ensures.values.2 c.args.seat.reads c.requires.joined)
