use Rattle.std.proofs.Common.{rules, ◌%◌, ◌==◌, ℕ, sym, ap, ◌∙◌}
use Rattle.phaser_core.specs.Cells.{end_at, is_odd}
use Rattle.phaser_words.proofs.SlotSteps.{look_on_slot, slot_inside, end_word_low}
use Rattle.phaser_words.proofs.places.Words.look.Goals as goal

pub load-seen-requires : goal.load-seen-requires
load-seen-requires c = (
  search rules,
  slot_inside _ _ _ _ c.args.self.now.wide (end_word_low (c.args.seat.now.interval % 2 == 1) _) c.end_slot.ensures,
  look_on_slot _ _ _ _ _ (c.args.seat.now.interval % 2 == 1) _ c.args.seat.now.reads (c.args.seat.now.staged ∙ c.in-Waiting.is) c.end_slot.ensures (ap (λ (m : ℕ). end_at (is_odd m)) (sym c.args.seat.now.counted)),
)
