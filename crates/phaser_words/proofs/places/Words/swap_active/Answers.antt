use Rattle.std.proofs.Common.{rules, ◌+◌, ℕ, sym, ap}
use Rattle.phaser_words.proofs.SlotSteps.{swap_on_slot}
use Rattle.phaser_words.proofs.places.Words.swap_active.Goals as goal

pub swap-found-requires : goal.swap-found-requires
swap-found-requires c = (search rules, search rules, swap_on_slot _ _ _ _ _ c.args.seat.now.reads c.requires.idle c.requires.few (ap (λ (m : ℕ). m + 1) (sym c.args.seat.now.counted)))
