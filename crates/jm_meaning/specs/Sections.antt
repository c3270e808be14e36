-- Critical sections in the meaning of a plan.
use Rattle.std.specs.Prelude.{ℕ, Option, Some, None}
use Rattle.jm_base.specs.Run.{Run, over, give, ◌>>=◌, Entered, Left}
use Rattle.jm_meaning.specs.State.{Ending, Part, with_unit}

-- after the children of a section it is left, whatever they ended with
abbrev pub leaving : ℕ → Run Ending → Run Ending
leaving lock run = run >>= λ e. give (Left lock) (over e)

-- A critical section takes a unit; it is entered, its children run, and it is left.
abbrev pub section : ℕ → Part → Part
section lock part s = with_unit s (λ s. give (Entered lock) (leaving lock (part s)))

-- the section of this lock is left, where one is open
abbrev pub leaving_open : {A : Type 0} → Option ℕ → Run A → Run A
leaving_open None run = run
leaving_open (Some lock) run = give (Left lock) run
