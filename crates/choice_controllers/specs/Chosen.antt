-- A pass that runs one child at most.
use Rattle.std.specs.Prelude.{ℕ, ◌<◌, Option, Some, None, Result, IfSome, IsOkAnd}
use Rattle.element_tree.specs.declared.package.Turn.{Turn}
use Rattle.element_tree.specs.declared.package.Turn.TheVariants.{Child, Over}
use Rattle.thread_vars.specs.declared.error.VarError.{VarError}
use Rattle.cursor_steps.specs.RunningChildren.{IsAmong}

-- the child that was chosen, where it is still to be run; else the pass is over
abbrev pub turn_of : Option ℕ → Turn
turn_of None = Over
turn_of (Some place) = Child place

-- how many children are still to be run
abbrev pub waiting : Option ℕ → ℕ
waiting None = 0
waiting (Some place) = 1

-- a turn is never refused, and answers a child among any number that the chosen one is among
abbrev pub RunsChosen : Option ℕ → Result Turn VarError → Type 0
RunsChosen chosen result = (children : ℕ) → IfSome chosen (λ place. place < children) → IsOkAnd result (IsAmong children)
