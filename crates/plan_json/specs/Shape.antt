-- The shape of a plan: what a JSON value is as a tree of elements, or what it is refused with.
use Rattle.std.specs.Prelude.{ℕ, ◌+◌, Bool, true, false, not, ◌&&◌, ◌||◌, List, [], ◌∷◌, ◌++◌, Option, Some, None, Result, Ok, Err, if◌then◌else◌, unwrap_or, is_some, option_and_then, codes, bytes_eq}
use Rattle.std.specs.Str.{is_utf8}
use Rattle.std.specs.Option.{option_map_or}
use Rattle.serde_json.specs.Data.{Data, null, boolean, number, string, array, object, Items, no_items, item, Members, no_members, member}
use Rattle.serde_json.specs.Find.{get_member, as_str, as_bool, as_array, as_object}
use Rattle.serde_json.specs.Read.{read}
use Rattle.plan_json.specs.Place.{at}
use Rattle.plan_json.specs.declared.error.TreeError.{TreeError}
use Rattle.plan_json.specs.declared.error.TreeError.TheVariants as errors

-- a tree of elements as it is written: its kind, name, whether it is enabled, its properties and its children
mutual
  pub data Raw : Type 0 where
    raw : List ℕ → List ℕ → Bool → Members → Raws → Raw

  pub data Raws : Type 0 where
    no_raws : Raws
    raw_then : Raw → Raws → Raws

infixl 10 ◌>>=◌
abbrev pub ◌>>=◌ : {A B F : Type 0} → Result A F → (A → Result B F) → Result B F
(Ok x) >>= f = f x
(Err e) >>= f = Err e

abbrev pub type_key : List ℕ
type_key = codes "type"

abbrev pub name_key : List ℕ
name_key = codes "name"

abbrev pub enabled_key : List ℕ
enabled_key = codes "enabled"

abbrev pub props_key : List ℕ
props_key = codes "props"

abbrev pub children_key : List ℕ
children_key = codes "children"

-- the key is absent, or its value has the form
abbrev pub fits : {A : Type 0} → List ℕ → (Data → Option A) → Members → Bool
fits key form ms = option_map_or (λ d. is_some (form d)) (get_member key ms) true

-- what stands at the key, or this where the key is absent
abbrev pub at_key : {A : Type 0} → List ℕ → (Data → Option A) → A → Members → A
at_key key form otherwise ms = unwrap_or (option_and_then form (get_member key ms)) otherwise

-- an object with a type, in which each of the five keys has a value of its form
abbrev pub is_element : Members → Bool
is_element ms =
    is_some (get_member type_key ms) && fits type_key as_str ms && fits name_key as_str ms
    && fits enabled_key as_bool ms && fits props_key as_object ms && fits children_key as_array ms

abbrev pub is_key : List ℕ → Bool
is_key k = bytes_eq k type_key || bytes_eq k name_key || bytes_eq k enabled_key || bytes_eq k props_key || bytes_eq k children_key

abbrev pub has_other_key : Members → Bool
has_other_key no_members = false
has_other_key (member k d ms) = not (is_key k) || has_other_key ms

-- the members of an object; another value has none
abbrev pub members_in : Data → Members
members_in d = unwrap_or (as_object d) no_members

-- the children as they are written
abbrev pub children_in : Members → Items
children_in ms = at_key children_key as_array no_items ms

-- the element that the members are, with these children
abbrev pub element_of : Members → Raws → Raw
element_of ms children =
    let kind = at_key type_key as_str [] ms in
    raw kind (at_key name_key as_str kind ms) (at_key enabled_key as_bool true ms) (at_key props_key as_object no_members ms) children

-- an element's own fault comes before those of its children
abbrev pub element : List ℕ → Members → Result Raws TreeError → Result Raw TreeError
element here ms children =
    if not (is_element ms) then Err (errors.NotElement (at here))
    else if has_other_key ms then Err (errors.UnknownKey (at here))
    else children >>= (λ cs. Ok (element_of ms cs))

unfoldable mutual
  -- what a value is at this place
  pub shape : List ℕ → Data → Result Raw TreeError
  shape here (object ms) = element here ms (shape_below here ms)
  shape here null = Err (errors.NotElement (at here))
  shape here (boolean b) = Err (errors.NotElement (at here))
  shape here (number n) = Err (errors.NotElement (at here))
  shape here (string s) = Err (errors.NotElement (at here))
  shape here (array ds) = Err (errors.NotElement (at here))

  -- the children that stand at the key `children`
  pub shape_below : List ℕ → Members → Result Raws TreeError
  shape_below here no_members = Ok no_raws
  shape_below here (member k (array ds) ms) = if bytes_eq children_key k then shapes here 0 ds else shape_below here ms
  shape_below here (member k null ms) = shape_below here ms
  shape_below here (member k (boolean b) ms) = shape_below here ms
  shape_below here (member k (number n) ms) = shape_below here ms
  shape_below here (member k (string s) ms) = shape_below here ms
  shape_below here (member k (object os) ms) = shape_below here ms

  -- the values of a list, the first of which is at this place in it
  pub shapes : List ℕ → ℕ → Items → Result Raws TreeError
  shapes here n no_items = Ok no_raws
  shapes here n (item d ds) = shape (here ++ n ∷ []) d >>= (λ x. shapes here (n + 1) ds >>= (λ xs. Ok (raw_then x xs)))

-- what a text is read as, where it is JSON
abbrev pub shape_of_json : Option Data → Result Raw TreeError
shape_of_json None = Err errors.NotJson
shape_of_json (Some d) = shape [] d

-- the tree of elements that bytes are, or what they are refused with
unfoldable pub reading_of : List ℕ → Result Raw TreeError
reading_of bytes = if is_utf8 bytes then shape_of_json (read bytes) else Err errors.NotUtf8
