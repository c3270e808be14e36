use Rattle.std.proofs.Common.{ℕ, ap, sym, ◌∙◌, get_or, arith}
use Rattle.std.specs.Slots.{slots_items}
use Rattle.phaser_words.proofs.Allowed.{read_at}
use Rattle.phaser_words.proofs.Spaced.{slot_low, words_long, word_in}
use Rattle.phaser_words.proofs.places.LastWords.word.Goals as goal

pub word-requires : goal.word-requires
word-requires c =
    let long = words_long c.args.self.now.labels (slots_items c.args.self.now.closed.words) in let low = c.requires in
    let inside = slot_low c.args.index c.args.self.now.labels (omega arith) in let wide = c.args.self.now.wide in let at = c.slot_of.ensures in
    (omega arith, c.args.self.now.full)

pub returns : goal.returns
returns c =
    let long = words_long c.args.self.now.labels (slots_items c.args.self.now.closed.words) in let low = c.requires in
    read_at (slots_items c.args.self.now.closed.words) c.slot_of.result c.word.result c.word.ensures
    ∙ ap (λ (i : ℕ). get_or (slots_items c.args.self.now.closed.words) i 0) c.slot_of.ensures ∙ sym (word_in c.args.self.now.labels (slots_items c.args.self.now.closed.words) c.args.index (omega arith))
