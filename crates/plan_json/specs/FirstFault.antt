-- The first fault of a plan's shape, in tree order: an element before its children, children in the order of their list.
use Rattle.std.specs.Prelude.{◌≡◌, ℕ, ◌<◌, ◌⊎◌, false, List, [], ◌∷◌, Option, Some, None, IsUtf8, not, if◌then◌else◌, option_and_then}
use Rattle.std.specs.Option.{option_map_or}
use Rattle.serde_json.specs.Data.{Data}
use Rattle.serde_json.specs.Find.{as_object, get_item}
use Rattle.serde_json.specs.Read.{read}
use Rattle.plan_json.specs.Place.{Place}
use Rattle.plan_json.specs.Shape.{is_element, has_other_key, members_in, children_in}

-- what is wrong with one value, whatever stands below it
pub data Fault : Type 0 where
  no_element : Fault
  another_key : Fault

-- a value that is not an element has no other fault
abbrev pub own_fault : Data → Option Fault
own_fault d =
    if not (option_map_or is_element (as_object d) false) then Some no_element
    else if has_other_key (members_in d) then Some another_key
    else None

-- the value that these steps down lead to, from child to child
abbrev pub value_at : List ℕ → Data → Option Data
value_at [] d = Some d
value_at (place ∷ places) d = option_and_then (value_at places) (get_item place (children_in (members_in d)))

-- tree order: the first of two places is above the second, or in a child that is listed before the other's
abbrev pub IsBefore : List ℕ → List ℕ → Type 0
IsBefore q [] = ⊥
IsBefore [] (j ∷ js) = Unit {0}
IsBefore (i ∷ is) (j ∷ js) = (i < j) ⊎ ((i ≡ j) × IsBefore is js)

-- at these places a value has this fault, and none before it has one
pub record IsFirstFault (d : Data) (places : List ℕ) (fault : Fault) : Type 0 where
  pub value : Data
  pub there : value_at places d ≡ Some value
  pub wrong : own_fault value ≡ Some fault
  pub first : (earlier : List ℕ) (v : Data) → IsBefore earlier places → value_at earlier d ≡ Some v → own_fault v ≡ None

-- no value that can be reached from child to child has a fault
abbrev pub IsFaultless : Data → Type 0
IsFaultless d = (places : List ℕ) (v : Data) → value_at places d ≡ Some v → own_fault v ≡ None

-- the bytes are JSON in UTF-8, whose first fault is this one, at this path
abbrev pub HasFirstFault : List ℕ → Place → Fault → Type 0
HasFirstFault bytes path fault = IsUtf8 bytes × (path.prop ≡ None) × (d : Data) × (read bytes ≡ Some d) × IsFirstFault d path.places fault

-- the bytes are JSON in UTF-8 without a fault
abbrev pub IsTree : List ℕ → Type 0
IsTree bytes = IsUtf8 bytes × (d : Data) × (read bytes ≡ Some d) × IsFaultless d
