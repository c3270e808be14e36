-- The Interleave Controller runs one child in each pass, the next one, and the first again after the last.
use Rattle.std.specs.Prelude.{ℕ, ◌+◌, ◌%◌, ◌==◌, Some, None, if◌then◌else◌}
use Rattle.jm_base.specs.Run.{Run}
use Rattle.var_functions.specs.declared.state.UserState.{UserState}
use Rattle.element_tree.specs.declared.package.Turn.{Turn}
use Rattle.choice_controllers.specs.declared.interleave_cursor.InterleaveCursor.{InterleaveCursor}
use Rattle.cursor_steps.specs.CursorStep.{Step, answers}
use Rattle.choice_controllers.specs.Chosen.{turn_of}

-- the place after a place, among this many children: the first again after the last
abbrev pub next_place : ℕ → ℕ → ℕ
next_place children place = (place + 1) % children

-- The child at the place is chosen, and the place moves on. Without children nothing is chosen, and the place stays.
abbrev pub interleaved : ℕ → InterleaveCursor → InterleaveCursor
interleaved children c =
    if children == 0 then record c { chosen = None }
    else record c { place = next_place children c.place; chosen = Some (c.place % children) }

-- a pass over this many children begins
abbrev pub interleave_enters : ℕ → InterleaveCursor → UserState → Run (Step (Unit {0}) InterleaveCursor)
interleave_enters children c state = answers tt (interleaved children c) state

-- the child that was chosen is run, and then the pass is over
abbrev pub interleave_next : InterleaveCursor → UserState → Run (Step Turn InterleaveCursor)
interleave_next c state = answers (turn_of c.chosen) (record c { chosen = None }) state
