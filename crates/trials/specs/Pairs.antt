-- Variables that are set to the values of templates, one after another.
use Rattle.std.specs.Prelude.{List, [], ◌∷◌, Some, None, if◌then◌else◌}
use Rattle.jm_base.specs.Run.{over}
use Rattle.element_props.specs.declared.prop.Pair.{Pair}
use Rattle.var_functions.specs.declared.state.UserState.{UserState}
use Rattle.thread_vars.specs.Vars.{Variables}
use Rattle.var_changes.specs.Changes.{Change, Sets, Changed, changed}
use Rattle.trials.specs.Tried.{Tried, Try, ◌>=>◌, each_of, text}

-- a thread's state with the variables after changes; past a limit where not all of them were made
abbrev pub with_changed : UserState → Changed → Tried (Unit {0})
with_changed user c = record {
  came = if c.whole then Some tt else None;
  user = record { vars = c.vars; fns = user.fns };
}

-- the variables are changed, by what they are then
abbrev pub changing : (Variables → List Change) → Try (Unit {0})
changing changes user = over (with_changed user (changed (changes user.vars) user.vars))

-- a variable is set to the value of a template
abbrev pub set_pair : Pair → Try (Unit {0})
set_pair p = text p.value >=> λ value. changing (λ vars. Sets p.name value ∷ [])

-- each value is expanded when its turn comes
abbrev pub set_pairs : List Pair → Try (Unit {0})
set_pairs pairs = each_of set_pair pairs
