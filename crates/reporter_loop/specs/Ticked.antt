-- How a ticker was asked.
use Rattle.std.specs.Prelude.{◌≡◌, ◌⊎◌, ℕ, ◌+◌, Option, Some, None}
use Rattle.jm_base.specs.FaultCounts.{Rose}
use Rattle.outside_world.specs.Tickers.{Ticks}

-- It was asked, and gave that many true answers. Its period is as before.
pub record HasTicked (trues : ℕ) (before after : Ticks) : Type 0 where
  pub period : after.period ≡ before.period
  pub trues_are : after.trues ≡ before.trues + trues
  pub asks : Rose before.asks after.asks

-- the same, where the ticker tells
abbrev pub HasTickedWhere : ℕ → Option Ticks → Option Ticks → Type 0
HasTickedWhere trues None after = after ≡ None
HasTickedWhere trues (Some t) after = (u : Ticks) × (after ≡ Some u) × HasTicked trues t u

-- it was not asked yet, or it has ticked
abbrev pub TickedSoFar : ℕ → Option Ticks → Option Ticks → Type 0
TickedSoFar trues before after = ((trues ≡ 0) × (after ≡ before)) ⊎ HasTickedWhere trues before after
