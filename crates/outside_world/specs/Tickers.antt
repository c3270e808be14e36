-- How often a ticker was asked, and what it answered.
use Rattle.std.specs.Prelude.{ℕ, ◌+◌, ◌-◌, ◌^◌, min, Bool, false, List, [], ◌∷◌}
use Rattle.jm_base.specs.SumTotals.{one_if}

-- the milliseconds last given to `every`, 0 before; how many answers were true; how many answers there were, a count that
-- stands still at the end of 64 bits
pub record Ticks : Type 0 where
  pub period : ℕ
  pub trues : ℕ
  pub asks : ℕ

-- from now on an interval lasts this many milliseconds
abbrev pub with_period : ℕ → Ticks → Ticks
with_period ms t = record t { period = ms }

-- one more answer was given
abbrev pub answered : Bool → Ticks → Ticks
answered answer t = record { period = t.period; trues = t.trues + one_if answer; asks = min (t.asks + 1) (2 ^ 64 - 1) }

-- a ticker over a list of answers: those that are left, and its counts
pub record MemTicks : Type 0 where
  pub left : List Bool
  pub ticks : Ticks

-- the next answer: after the list it is false
abbrev pub next_answer : List Bool → Bool
next_answer [] = false
next_answer (answer ∷ left) = answer

abbrev pub left_after : List Bool → List Bool
left_after [] = []
left_after (answer ∷ left) = left

-- its next answer was given
abbrev pub after_answer : MemTicks → MemTicks
after_answer m = record { left = left_after m.left; ticks = answered (next_answer m.left) m.ticks }
