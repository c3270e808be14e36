-- The Random Controller runs one child in each pass, which a random word picks.
use Rattle.std.specs.Prelude.{ℕ, ◌%◌, ◌==◌, Option, Some, None, if◌then◌else◌}
use Rattle.jm_base.specs.Run.{Run}
use Rattle.var_functions.specs.declared.state.UserState.{UserState}
use Rattle.var_functions.specs.FunctionState.{Functions, drawn, draw}
use Rattle.element_tree.specs.declared.package.Turn.{Turn}
use Rattle.choice_controllers.specs.declared.random_cursor.RandomCursor.{RandomCursor}
use Rattle.cursor_steps.specs.CursorStep.{Step, answers}
use Rattle.choice_controllers.specs.Chosen.{turn_of}

-- the place that the next word picks among this many children
abbrev pub random_place : ℕ → Functions → Option ℕ
random_place children fns = if children == 0 then None else Some (drawn fns.random % children)

-- without children no word is drawn
abbrev pub random_fns : ℕ → Functions → Functions
random_fns children fns = if children == 0 then fns else draw fns

-- a pass over this many children begins
abbrev pub random_enters : ℕ → RandomCursor → UserState → Run (Step (Unit {0}) RandomCursor)
random_enters children c state =
    answers tt (record c { chosen = random_place children state.fns }) (record state { fns = random_fns children state.fns })

-- the child that was chosen is run, and then the pass is over
abbrev pub random_next : RandomCursor → UserState → Run (Step Turn RandomCursor)
random_next c state = answers (turn_of c.chosen) (record c { chosen = None }) state
