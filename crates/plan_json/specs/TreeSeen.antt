-- What contracts see of an element and of a refusal.
use Rattle.std.specs.Prelude.{◌≡◌, Bool, ◌&&◌, is_some, map, IsOk, List, [], ◌∷◌, Result, Ok, Err}
use Rattle.std.specs.List.{list_all}
use Rattle.serde_json.specs.Data.{Members}
use Rattle.serde_json.specs.Find.{as_object}
use Rattle.serde_json.specs.View.{view}
use Rattle.plan_json.specs.Shape.{Raw, raw, Raws, no_raws, raw_then, members_in, element_of}
use Rattle.plan_json.specs.declared.error.TreeError.{TreeError}
use Rattle.plan_json.specs.declared.error.TreeError.TheVariants as errors
use Rattle.plan_json.specs.declared.raw.RawElement.{RawElement, fold-RawElement}
use Rattle.plan_json.specs.declared.raw.RawElement.TheOpen.{RawElement-F}

abbrev pub raws_of : List Raw → Raws
raws_of [] = no_raws
raws_of (r ∷ rs) = raw_then r (raws_of rs)

-- one level, with each child already seen as its tree
abbrev pub raw_step : RawElement-F Raw → Raw
raw_step e = raw e.kind e.name e.enabled (members_in (view e.props)) (raws_of e.children.items)

abbrev pub raw_view : RawElement → Raw
raw_view = fold-RawElement Raw raw_step

-- the properties of an element, and of all below it, are kept as an object
abbrev pub objects_step : RawElement-F Bool → Bool
objects_step e = is_some (as_object (view e.props)) && list_all (λ b. b) e.children.items

abbrev pub has_objects : RawElement → Bool
has_objects = fold-RawElement Bool objects_step

-- a call may answer this error where a reading is refused so, unless it ran out of memory
abbrev pub Fails : {A : Type 0} → TreeError → Result A TreeError → Type 0
Fails errors.NoMemory reading = Unit {0}
Fails errors.NotUtf8 reading = reading ≡ Err errors.NotUtf8
Fails errors.NotJson reading = reading ≡ Err errors.NotJson
Fails (errors.NotElement path) reading = reading ≡ Err (errors.NotElement path)
Fails (errors.UnknownKey path) reading = reading ≡ Err (errors.UnknownKey path)

-- what a call answered, seen by this, is what is read, unless it ran out of memory
abbrev pub Gives : {X Y : Type 0} → (X → Y) → Result X TreeError → Result Y TreeError → Type 0
Gives seen (Ok x) reading = reading ≡ Ok (seen x)
Gives seen (Err e) reading = Fails e reading

-- an element made of these members and children
abbrev pub IsElement : Result RawElement TreeError → Members → List RawElement → Type 0
IsElement (Ok e) ms children = raw_view e ≡ element_of ms (raws_of (map raw_view children))
IsElement (Err e) ms children = e ≡ errors.NoMemory

-- a call answers this error exactly where the fact holds, unless it ran out of memory
pub record ExactlyWhere (result : Result RawElement TreeError) (error : TreeError) (P : Type 0) : Type 0 where
  pub only : result ≡ Err error → P
  pub always : P → (result ≡ Err errors.NoMemory → ⊥) → result ≡ Err error

-- a call succeeds exactly where the fact holds, unless it ran out of memory
pub record SucceedsWhere (result : Result RawElement TreeError) (P : Type 0) : Type 0 where
  pub only : IsOk result → P
  pub always : P → (result ≡ Err errors.NoMemory → ⊥) → IsOk result
