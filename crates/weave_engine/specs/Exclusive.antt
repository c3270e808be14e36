-- Which sections are open.
use Rattle.std.specs.Prelude.{◌≡◌, ℕ, true, List, Option, Some, slice_get, slice_index}
use Rattle.phaser_core.specs.Cells.{is_odd}

-- Of each thread the lock of its open section, and of each lock its word: the word is odd where one thread has the section open,
-- and only one, and else even.
pub record Exclusive (opens : List (Option ℕ)) (locks : List ℕ) : Type 0 where
  pub opened : (l : ℕ) → is_odd (slice_index locks l) ≡ true → (k : ℕ) × (slice_get opens k ≡ Some (Some l))
  pub odd : (k l : ℕ) → slice_get opens k ≡ Some (Some l) → is_odd (slice_index locks l) ≡ true
  pub alone : (j k l : ℕ) → slice_get opens j ≡ Some (Some l) → slice_get opens k ≡ Some (Some l) → j ≡ k
