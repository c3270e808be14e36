-- What the controllers that choose among their children run of them.
use Rattle.std.specs.Prelude.{ℕ, ◌-◌, ◌%◌, ◌==◌, List, length, Option, slice_get, if◌then◌else◌}
use Rattle.std.specs.Option.{option_and_then}
use Rattle.jm_base.specs.Run.{over}
use Rattle.var_functions.specs.FunctionState.{Functions}
use Rattle.choice_controllers.specs.InterleaveController.{next_place}
use Rattle.choice_controllers.specs.RandomController.{random_place, random_fns}
use Rattle.choice_controllers.specs.RandomOrderController.{shuffled}
use Rattle.choice_controllers.specs.SwitchController.{picks}
use Rattle.jm_meaning.specs.State.{State, Part, Try, normal, state_of, at_places, place_of, with_place, with_fns, tried}
use Rattle.jm_meaning.specs.Children.{Below, in_order, one_of}

-- the child at the place that was chosen, or nothing
abbrev pub chosen : Below → ℕ → List ℕ → Option ℕ → Part
chosen below round children place s = one_of below round (option_and_then (slice_get children) place) s

-- the Interleave Controller of this number, with that many children, has moved on to its next child
abbrev pub moved_on : ℕ → ℕ → State → State
moved_on number children s =
    state_of s.user (at_places s.own (with_place s.own.places number (next_place children (place_of s.own.places number))))

-- Interleave: the child at the place, which has moved on before the child runs
abbrev pub interleave : Below → ℕ → ℕ → List ℕ → Part
interleave below round number children s =
    if length children == 0 then over (normal s)
    else one_of below round (slice_get children (place_of s.own.places number % length children)) (moved_on number (length children) s)

-- Random: the child that a word picks; without children no word is drawn
abbrev pub random : Below → ℕ → List ℕ → Part
random below round children s =
    chosen below round children (random_place (length children) s.user.fns) (with_fns s (random_fns (length children) s.user.fns))

-- all of them, each exchanged with one up to it that a word picks, from the last down to the second
abbrev pub shuffled_all : List ℕ → Functions → List ℕ × Functions
shuffled_all children fns = shuffled (length children - 1) children fns

-- Random Order: all children in an order that words make
abbrev pub random_order : Below → ℕ → List ℕ → Part
random_order below round children s =
    in_order below round (shuffled_all children s.user.fns).0 (with_fns s (shuffled_all children s.user.fns).1)

-- Switch: the child that the text picks by its index, or by its name among these
abbrev pub switch : Below → ℕ → List (List ℕ) → List ℕ → Try (List ℕ) → Part
switch below round names children text s = tried text s (λ x. chosen below round children (picks x names))
