-- The rounds of the Loop, While and ForEach Controllers.
use Rattle.std.specs.Prelude.{◌≡◌, ℕ, ◌+◌, ◌-◌, true, false, List, Option, Some, Result, IfOk, decimal, if◌then◌else◌}
use Rattle.element_tree.specs.declared.package.Turn.{Turn}
use Rattle.thread_vars.specs.declared.error.VarError.{VarError}
use Rattle.thread_vars.specs.Vars.{Variables, put_var, index_name}
use Rattle.logic_controllers.specs.declared.rounds.Rounds.{Rounds}
use Rattle.cursor_steps.specs.RunningChildren.{none_left, pass_over, IsAmong, Passes, begun_after}

-- before the first round
abbrev pub before_rounds : ℕ → Rounds
before_rounds children = record { begun = 0; opening = false; pass = none_left children }

-- a round begins: its variables are still to be set, and all children are to be run
abbrev pub round_begun : Rounds → Rounds
round_begun r = record { begun = r.begun + 1; opening = true; pass = pass_over r.pass.children }

-- The variables where the round that began last is opened: its index, from 0, is set. There are none where they would
-- be past their limit; and nothing is set where the round was opened already.
abbrev pub opened_vars : List ℕ → Rounds → Variables → Option Variables
opened_vars name r vars = if r.opening then put_var (index_name name) (decimal (r.begun - 1)) vars else Some vars

abbrev pub opened : Rounds → Rounds
opened r = record r { opening = false }

-- how a turn leaves the rounds
pub record RoundsTurn (old new : Rounds) (result : Result Turn VarError) : Type 0 where
  pub child : IfOk result (IsAmong old.pass.children)
  pub pass : IfOk result (Passes old.pass new.pass)
  pub begun : IfOk result (λ turn. new.begun ≡ begun_after old.begun turn)
  pub children : new.pass.children ≡ old.pass.children
