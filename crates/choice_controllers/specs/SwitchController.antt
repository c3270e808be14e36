-- The Switch Controller runs the one child that its text picks.
use Rattle.std.specs.Prelude.{ℕ, nat_eq, nat_lt, Bool, true, false, ◌==◌, List, [], length, map, take, Option, Some, None, slice_get, codes, if◌then◌else◌}
use Rattle.std.specs.List.{position_from}
use Rattle.std.specs.Option.{option_or}
use Rattle.std.specs.Str.{str_eq_ignore_ascii_case}
use Rattle.std.specs.Str.Parse.{digits_value}
use lib.Pointwise.{pointwise}
use Rattle.jm_base.specs.Run.{Run}
use Rattle.template_text.specs.Pieces.{Pieces}
use Rattle.var_functions.specs.declared.state.UserState.{UserState}
use Rattle.element_tree.specs.declared.kinds.Element.{Element}
use Rattle.element_tree.specs.declared.kinds.Kind.{Kind}
use Rattle.element_tree.specs.declared.kinds.Kind.TheVariants as kinds
use Rattle.element_tree.specs.declared.package.Turn.{Turn}
use Rattle.choice_controllers.specs.declared.switch_cursor.SwitchCursor.{SwitchCursor}
use Rattle.cursor_steps.specs.CursorStep.{Step, answers, past_limit, expanding}
use Rattle.cursor_steps.specs.RunningChildren.{runs_of}
use Rattle.cursor_steps.specs.Numeral.{is_decimal}
use Rattle.choice_controllers.specs.Chosen.{turn_of}

-- the name of an element
abbrev pub name_of : Option Element → List ℕ
name_of None = []
name_of (Some element) = element.name

abbrev pub name_at : List Element → ℕ → List ℕ
name_at elements number = name_of (slice_get elements number)

-- the names of the children that are run, in order; a place has 16 bits, which the children of no plan fill
abbrev pub run_names : List Element → Element → List (List ℕ)
run_names elements element = take 65535 (map (name_at elements) (runs_of elements element))

-- the same text, or, where case does not matter, the same but for capitals of ASCII
abbrev pub is_name : Bool → List ℕ → List ℕ → Bool
is_name true wanted name = str_eq_ignore_ascii_case name wanted
is_name false wanted name = pointwise nat_eq name wanted

-- the place of the first child of this name
abbrev pub place_named : Bool → List ℕ → List (List ℕ) → Option ℕ
place_named any_case wanted names = position_from (is_name any_case wanted) 0 names

-- an index among this many children; one that is out of range is the first child's
abbrev pub index_among : ℕ → ℕ → ℕ
index_among children index = if nat_lt index children then index else 0

-- The place that a text picks among children of these names. Decimal digits are the index of a child, from 0, and an
-- empty text picks the first child. Another text picks the first child of that name, case significant, and where no
-- child has it the first one that is named `default`, in capitals or not.
abbrev pub picks : List ℕ → List (List ℕ) → Option ℕ
picks text names =
    if length names == 0 then None
    else if length text == 0 then Some 0
    else if is_decimal text then Some (index_among (length names) (digits_value 10 text))
    else option_or (place_named false text names) (place_named true (codes "default") names)

-- On entry the text is expanded, also where there is no child, and picks a child.
abbrev pub switch_enters : Pieces → List (List ℕ) → SwitchCursor → UserState → Run (Step (Unit {0}) SwitchCursor)
switch_enters value names c state =
    expanding value c state (λ text state. answers tt (record c { chosen = picks text names }) state)

-- at an element of its kind
abbrev pub switch_enters_at : Kind → List (List ℕ) → SwitchCursor → UserState → Run (Step (Unit {0}) SwitchCursor)
switch_enters_at (kinds.Switch value) names c state = switch_enters value names c state
switch_enters_at kind names c state = past_limit c state

-- the child that was picked is run, and then the pass is over
abbrev pub switch_next : SwitchCursor → UserState → Run (Step Turn SwitchCursor)
switch_next c state = answers (turn_of c.chosen) (record c { chosen = None }) state
