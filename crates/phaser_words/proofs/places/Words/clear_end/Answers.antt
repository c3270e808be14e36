use Rattle.std.proofs.Common.{rules, ◌+◌, ◌%◌, ◌==◌, ℕ, sym, ap, ◌∙◌}
use Rattle.phaser_core.specs.Cells.{end_at, initial, is_odd}
use Rattle.phaser_words.proofs.Allowed.{even_next}
use Rattle.phaser_words.proofs.SlotSteps.{clear_on_slot, slot_inside, end_word_low}
use Rattle.phaser_words.proofs.places.Words.clear_end.Goals as goal

pub swap-found-requires : goal.swap-found-requires
swap-found-requires c =
    let turn = even_next c.args.seat.now.interval ∙ ap (λ (m : ℕ). is_odd (m + 1)) (sym c.args.seat.now.counted) in (
      search rules,
      slot_inside _ _ _ _ c.args.self.now.wide (end_word_low (c.args.seat.now.interval % 2 == 0) _) c.end_slot.ensures,
      clear_on_slot _ _ _ _ (c.args.seat.now.interval % 2 == 0) _ _ c.args.seat.now.reads c.requires.swapped c.end_slot.ensures (ap end_at turn) (c.initial.ensures ∙ ap initial turn),
    )
