-- The Once Only Controller runs its children in the first round of the looping element around it alone.
use Rattle.std.specs.Prelude.{ℕ, ◌&&◌, ◌==◌, if◌then◌else◌}
use Rattle.jm_base.specs.Run.{Run}
use Rattle.var_functions.specs.declared.state.UserState.{UserState}
use Rattle.element_tree.specs.declared.package.Turn.{Turn}
use Rattle.element_tree.specs.declared.package.Turn.TheVariants.{Child, Over}
use Rattle.logic_controllers.specs.declared.once_cursor.OnceCursor.{OnceCursor}
use Rattle.cursor_steps.specs.CursorStep.{Step, answers}
use Rattle.cursor_steps.specs.RunningChildren.{pass_over, is_left, after_child}

-- a pass over this many children begins
abbrev pub once_enters : ℕ → OnceCursor → UserState → Run (Step (Unit {0}) OnceCursor)
once_enters children c state = answers tt (record c { pass = pass_over children }) state

-- In round 0 the next child; the pass is over after the last one, and in every other round.
abbrev pub once_next : ℕ → OnceCursor → UserState → Run (Step Turn OnceCursor)
once_next round c state =
    if round == 0 && is_left c.pass then answers (Child c.pass.next) (record c { pass = after_child c.pass }) state
    else answers Over c state
