-- The If Controller runs its children where its condition is true.
use Rattle.std.specs.Prelude.{ℕ, Bool, true, false, List, codes, if◌then◌else◌}
use Rattle.std.specs.Str.{str_eq_ignore_ascii_case}
use Rattle.jm_base.specs.Run.{Run}
use Rattle.template_text.specs.Pieces.{Pieces}
use Rattle.var_functions.specs.declared.state.UserState.{UserState}
use Rattle.element_tree.specs.declared.kinds.Kind.{Kind}
use Rattle.element_tree.specs.declared.kinds.Kind.TheVariants as kinds
use Rattle.element_tree.specs.declared.package.Turn.{Turn}
use Rattle.element_tree.specs.declared.package.Turn.TheVariants.{Child, Over}
use Rattle.logic_controllers.specs.declared.if_cursor.IfCursor.{IfCursor}
use Rattle.cursor_steps.specs.CursorStep.{Step, answers, past_limit, expanding}
use Rattle.cursor_steps.specs.RunningChildren.{pass_over, is_left, after_child}

-- a condition is true where its text is `true`, in capitals or not
abbrev pub is_true : List ℕ → Bool
is_true text = str_eq_ignore_ascii_case text (codes "true")

-- On entry: with `all` nothing is evaluated; without it the condition is, and where it isn't true no child is run.
abbrev pub if_enters : Bool → Pieces → ℕ → IfCursor → UserState → Run (Step (Unit {0}) IfCursor)
if_enters true condition children c state = answers tt (record c { pass = pass_over children }) state
if_enters false condition children c state =
    expanding condition c state (λ text state. answers tt (record c { pass = pass_over (if is_true text then children else 0) }) state)

-- at an element of its kind
abbrev pub if_enters_at : Kind → ℕ → IfCursor → UserState → Run (Step (Unit {0}) IfCursor)
if_enters_at (kinds.If all condition) children c state = if_enters all condition children c state
if_enters_at kind children c state = past_limit c state

-- the next child is run
abbrev pub if_runs : IfCursor → UserState → Run (Step Turn IfCursor)
if_runs c state = answers (Child c.pass.next) (record c { pass = after_child c.pass }) state

-- where a child is left: with `all` it is run where the condition is true now, without it in any case
abbrev pub if_goes : Bool → Pieces → IfCursor → UserState → Run (Step Turn IfCursor)
if_goes true condition c state = expanding condition c state (λ text state. if is_true text then if_runs c state else answers Over c state)
if_goes false condition c state = if_runs c state

-- nothing is evaluated after the last child
abbrev pub if_next : Bool → Pieces → IfCursor → UserState → Run (Step Turn IfCursor)
if_next all condition c state = if is_left c.pass then if_goes all condition c state else answers Over c state

-- at an element of its kind
abbrev pub if_next_at : Kind → IfCursor → UserState → Run (Step Turn IfCursor)
if_next_at (kinds.If all condition) c state = if_next all condition c state
if_next_at kind c state = past_limit c state
