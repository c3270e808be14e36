-- How a ticker was asked, over several answers.
use Rattle.std.proofs.Common.{◌≡◌, ◌∙◌, ℕ, ◌+◌, ◌-◌, ◌^◌, Bool, Option, Some, None, refl, ap, arith, inl, inr}
use Rattle.std.specs.Prelude.{min}
use Rattle.std.specs.Option.{option_map}
use mathlib.Core.Logic.{dite}
use native.Mathlib.Decide.{ℕ_discrete}
use Rattle.jm_base.specs.FaultCounts.{Rose}
use Rattle.jm_base.specs.SumTotals.{one_if}
use Rattle.outside_world.specs.Tickers.{Ticks, answered}
use Rattle.reporter_loop.specs.Ticked.{HasTicked, HasTickedWhere, TickedSoFar}

-- a count of 64 bits, one higher
rose_one : (a : ℕ) → Rose a (min (a + 1) (2 ^ 64 - 1))
rose_one a = dite (ℕ_discrete (min (a + 1) (2 ^ 64 - 1)) (2 ^ 64 - 1)) inr (λ ne. inl (omega arith))

rose_more : (a b : ℕ) → Rose a b → Rose a (min (b + 1) (2 ^ 64 - 1))
rose_more a b h = dite (ℕ_discrete (min (b + 1) (2 ^ 64 - 1)) (2 ^ 64 - 1)) inr (λ ne. elim h [
  | inl low ↦ inl (omega (arith, ne, low))
  | inr end ↦ absurd (ne (omega (arith, end)))
])

first_tick : (answer : Bool) (t : Ticks) (m : ℕ) → m ≡ 0 → HasTicked (m + one_if answer) t (answered answer t)
first_tick answer t m none = record { period = refl; trues_are = omega arith; asks = rose_one t.asks }

next_tick : (answer : Bool) (t u : Ticks) (m : ℕ) → HasTicked m t u → HasTicked (m + one_if answer) t (answered answer u)
next_tick answer t u m h = record { period = h.period; trues_are = (let so_far = h.trues_are in omega arith); asks = rose_more t.asks u.asks h.asks }

-- one more answer
pub tick_more : (m : ℕ) (answer : Bool) (a b c : Option Ticks) → TickedSoFar m a b → c ≡ option_map (answered answer) b → HasTickedWhere (m + one_if answer) a c
tick_more m answer None b c h is = elim h [
  | inl p ↦ is ∙ ap (option_map (answered answer)) p.1
  | inr none ↦ is ∙ ap (option_map (answered answer)) none
]
tick_more m answer (Some t) b c h is = elim h [
  | inl p ↦ (answered answer t, is ∙ ap (option_map (answered answer)) p.1, first_tick answer t m p.0)
  | inr s ↦ (answered answer s.0, is ∙ ap (option_map (answered answer)) s.1, next_tick answer t s.0 m s.2)
]

pub tick_more_so_far : (m : ℕ) (answer : Bool) (a b c : Option Ticks) → TickedSoFar m a b → c ≡ option_map (answered answer) b → TickedSoFar (m + one_if answer) a c
tick_more_so_far m answer a b c h is = inr (tick_more m answer a b c h is)
