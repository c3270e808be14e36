use Rattle.std.proofs.Common.{◌≡◌, ◌<◌, ℕ, length, get_or}
use Rattle.phaser_words.specs.Spacing.{slot, slot_count}
use Rattle.phaser_words.proofs.spacing.spread.Given as goal

abbrev pub invariant-loop-word : goal.invariant-loop-word
invariant-loop-word l = record {
  count : length l.slots.items ≡ slot_count l.fn.labels;
  copied : (i : ℕ) → i < l.word → get_or l.slots.items (slot i) 0 ≡ get_or l.fn.words i 0;
}
