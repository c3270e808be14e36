use Rattle.std.proofs.Common.{rules, ◌+◌, ℕ, sym, ap, ◌∙◌}
use Rattle.phaser_core.specs.Cells.{initial, is_odd}
use Rattle.phaser_words.proofs.Allowed.{even_next}
use Rattle.phaser_words.proofs.SlotSteps.{flip_on_slot}
use Rattle.phaser_words.proofs.places.Words.flip.Goals as goal

pub swap-found-requires : goal.swap-found-requires
swap-found-requires c =
    let turn = even_next c.args.seat.now.interval ∙ ap (λ (m : ℕ). is_odd (m + 1)) (sym c.args.seat.now.counted) in
    (search rules, search rules, flip_on_slot _ _ _ _ _ c.args.seat.now.reads c.requires.cleared (c.initial.ensures ∙ ap initial turn))
