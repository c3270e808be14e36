-- The Simple Controller runs its children in order.
use Rattle.std.specs.Prelude.{ℕ, if◌then◌else◌}
use Rattle.jm_base.specs.Run.{Run}
use Rattle.var_functions.specs.declared.state.UserState.{UserState}
use Rattle.element_tree.specs.declared.package.Turn.{Turn}
use Rattle.element_tree.specs.declared.package.Turn.TheVariants.{Child, Over}
use Rattle.logic_controllers.specs.declared.simple_cursor.SimpleCursor.{SimpleCursor}
use Rattle.cursor_steps.specs.CursorStep.{Step, answers}
use Rattle.cursor_steps.specs.RunningChildren.{pass_over, is_left, after_child}

-- a pass over this many children begins
abbrev pub simple_enters : ℕ → SimpleCursor → UserState → Run (Step (Unit {0}) SimpleCursor)
simple_enters children c state = answers tt (record c { pass = pass_over children }) state

-- the next child, or the pass is over
abbrev pub simple_next : SimpleCursor → UserState → Run (Step Turn SimpleCursor)
simple_next c state =
    if is_left c.pass then answers (Child c.pass.next) (record c { pass = after_child c.pass }) state else answers Over c state
