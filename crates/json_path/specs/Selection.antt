-- The values that a path reaches, and how they are shown.
use Rattle.std.specs.Prelude.{ℕ, zero, suc, Bool, true, false, nat_eq, ◌&&◌, List, [], ◌∷◌, Option, Some, None, if◌then◌else◌}
use Rattle.std.specs.List.{flat_map, filter_map}
use Rattle.serde_json.specs.Data.{Data, null, boolean, number, string, array, object, Items, no_items, item, Members, no_members, member}
use Rattle.serde_json.specs.Written.{has_float, compact_text}
use Rattle.json_path.specs.declared.path.Step.{Step}
use Rattle.json_path.specs.declared.path.Step.TheVariants.{Name, Index, All}

abbrev pub same_text : List ℕ → List ℕ → Bool
same_text [] [] = true
same_text (x ∷ xs) (y ∷ ys) = nat_eq x y && same_text xs ys
same_text [] (y ∷ ys) = false
same_text (x ∷ xs) [] = false

-- the value of the member with this name
abbrev pub named : List ℕ → Members → List Data
named name no_members = []
named name (member key d ms) = if same_text key name then d ∷ named name ms else named name ms

-- the items in their order
abbrev pub item_values : Items → List Data
item_values no_items = []
item_values (item d ds) = d ∷ item_values ds

-- the values of an object, in byte order of keys
abbrev pub member_values : Members → List Data
member_values no_members = []
member_values (member key d ms) = d ∷ member_values ms

-- the item at a place
abbrev pub item_at : ℕ → Items → List Data
item_at n no_items = []
item_at zero (item d ds) = d ∷ []
item_at (suc n) (item d ds) = item_at n ds

-- The values that one step reaches. A name reaches nothing but in an object, and a place nothing but in a list.
abbrev pub step_values : Step → Data → List Data
step_values (Name name) (object ms) = named name ms
step_values (Index n) (array ds) = item_at n ds
step_values All (array ds) = item_values ds
step_values All (object ms) = member_values ms
step_values _ _ = []

-- the values that steps reach, in order
unfoldable pub reached : List Step → Data → List Data
reached [] d = d ∷ []
reached (s ∷ ss) d = flat_map (reached ss) (step_values s d)

-- a text is given bare, and any other value as compact JSON
abbrev pub text_of : Data → List ℕ
text_of null = compact_text null
text_of (boolean b) = compact_text (boolean b)
text_of (number n) = compact_text (number n)
text_of (string s) = s
text_of (array ds) = compact_text (array ds)
text_of (object ms) = compact_text (object ms)

-- a value that holds a number outside the whole numbers of 64 bits is passed over
abbrev pub shown : Data → Option (List ℕ)
shown d = if has_float d then None else Some (text_of d)

-- the texts that a path selects
abbrev pub selected : List Step → Data → List (List ℕ)
selected ss d = filter_map shown (reached ss d)
