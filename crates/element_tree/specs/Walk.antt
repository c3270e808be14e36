-- The elements of a tree, in tree order, or the first refusal on the way.
use Rattle.std.specs.Prelude.{◌≡◌, ℕ, zero, suc, ◌+◌, Bool, false, not, ◌&&◌, ◌||◌, List, [], ◌∷◌, ◌++◌, length, Option, Some, None, Result, Ok, Err, if◌then◌else◌, nat_lt, nat_le, codes, unwrap_or, option_and_then}
use Rattle.std.specs.List.{list_any}
use Rattle.serde_json.specs.Data.{Members}
use Rattle.serde_json.specs.Find.{get_member, as_number, as_u64}
use Rattle.plan_json.specs.Place.{at}
use Rattle.plan_json.specs.Shape.{Raw, raw, Raws, no_raws, raw_then}
use Rattle.element_props.specs.declared.error.BuildError.{BuildError}
use Rattle.element_props.specs.declared.error.BuildError.TheVariants.{UnknownType, BadProp, MissingProp, TooMany, TooDeep, WrongPlace}
use Rattle.element_props.specs.declared.error.What.TheVariants as what
use Rattle.element_props.specs.Answers.{IsByPlan}
use Rattle.element_props.specs.Patterns.{Asked}
use Rattle.element_props.specs.Props.{own_properties}
use Rattle.element_props.specs.Reads.{Reads, over, ◌>>=◌, refuse_if, or_refuse, outcome, Goes, Fails}
use Rattle.element_tree.specs.declared.kinds.Kind.{Kind}
use Rattle.element_tree.specs.declared.kinds.Kind.TheVariants as kinds
use Rattle.element_tree.specs.declared.kinds.Element.{Element}
use Rattle.element_tree.specs.declared.types.ElementType.{ElementType}
use Rattle.element_tree.specs.declared.types.Class.{Class}
use Rattle.element_tree.specs.declared.tree_walk.Spot.{Spot as CodeSpot}
use Rattle.element_tree.specs.Types.{class_of_type, may_stand, is_leaf, is_section_type}
use Rattle.element_tree.specs.Table.{rows, type_of_name}
use Rattle.element_tree.specs.Kinds.{kind_of}
use Rattle.element_tree.specs.Names.{labels_of, locks_of}
use Rattle.element_tree.specs.Threads.{threads_in, is_group_element}
use Rattle.element_tree.specs.Tree.{Tree}

abbrev pub is_enabled : Raw → Bool
is_enabled (raw kind name enabled ms below) = enabled

abbrev pub has_enabled : Raws → Bool
has_enabled no_raws = false
has_enabled (raw_then r rs) = is_enabled r || has_enabled rs

-- where an element stands: the class of the element above it, how deep it nests, whether it is below a critical section,
-- the number of the element above it, the places of the steps from the root as they are written, and the plan's version
pub record Spot : Type 0 where
  pub above : Option Class
  pub depth : ℕ
  pub inside : Bool
  pub parent : ℕ
  pub places : List ℕ
  pub version : ℕ

-- a place is right where the element is enabled, its class may stand there, no critical section is below another one,
-- and nothing enabled is below an element that takes part in samples
abbrev pub is_right : Spot → Bool → Raws → ElementType → Bool
is_right spot enabled below t =
    enabled && (may_stand spot.above (class_of_type t) && (not (spot.inside && is_section_type t) && not (is_leaf (class_of_type t) && has_enabled below)))

-- the checks of an element before its properties, in order
abbrev pub placed : Spot → ℕ → List ℕ → List ℕ → Bool → Raws → Reads ElementType
placed spot number kind name enabled below =
    refuse_if (nat_le 4096 number) (TooMany (at spot.places) what.Elements) >>= (λ _.
    or_refuse (type_of_name kind) (UnknownType (at spot.places)) >>= (λ t.
    refuse_if (nat_lt 32 spot.depth) (TooDeep (at spot.places)) >>= (λ _.
    refuse_if (not (is_right spot enabled below t)) (WrongPlace (at spot.places)) >>= (λ _.
    refuse_if (nat_lt 256 (length name)) (TooMany (at spot.places) what.Text) >>= (λ _.
    over t)))))

-- an element's own type and kind: its place, then its properties
unfoldable pub own : Spot → ℕ → List ℕ → List ℕ → Bool → Members → Raws → Reads (ElementType × Kind)
own spot number kind name enabled ms below = do
  t ← placed spot number kind name enabled below
  ps ← own_properties spot.places ms (rows spot.version t)
  made ← or_refuse (kind_of t ps) (BadProp (at spot.places))
  over (t, made)

abbrev pub own_of : Spot → ℕ → Raw → Reads (ElementType × Kind)
own_of spot number (raw kind name enabled ms below) = own spot number kind name enabled ms below

-- where the elements below an element of this type and number stand, but for their places
abbrev pub child_spot : Spot → ElementType → ℕ → Spot
child_spot spot t number = record {
  above = Some (class_of_type t);
  depth = spot.depth + 1;
  inside = spot.inside || is_section_type t;
  parent = number;
  places = spot.places;
  version = spot.version;
}

abbrev pub at_place : Spot → ℕ → Spot
at_place spot place = record spot { places = spot.places ++ place ∷ [] }

abbrev pub node : List ℕ → Kind → ℕ → List ℕ → Element
node name kind parent children = record { name = name; kind = kind; parent = parent; children = children }

unfoldable mutual
  -- the element at this spot, which has this number, and after it those below it
  pub elements : Spot → ℕ → Raw → Reads (List Element)
  elements spot number (raw kind name enabled ms cs) =
      own spot number kind name enabled ms cs >>= (λ o.
      below (child_spot spot o.0 number) 0 (number + 1) cs >>= (λ b.
      over (node name o.1 spot.parent b.0 ∷ b.1)))

  -- the enabled ones of these children, the first of which is at this place: their numbers, and all elements from this number on
  pub below : Spot → ℕ → ℕ → Raws → Reads (List ℕ × List Element)
  below spot place number no_raws = over ([], [])
  below spot place number (raw_then r rs) =
      if is_enabled r
      then elements (at_place spot place) number r >>= (λ xs.
      below spot (place + 1) (number + length xs) rs >>= (λ b.
      over (number ∷ b.0, xs ++ b.1)))
      else below spot (place + 1) number rs

-- ---- the plan

-- the versions of a plan's format that are known
abbrev pub latest_version : ℕ
latest_version = 1

abbrev pub known_version : ℕ → Option ℕ
known_version n = if nat_le 1 n && nat_le n latest_version then Some n else None

-- the version that the root's properties give, 1 where they give none that is known
abbrev pub version_of : Members → ℕ
version_of ms = unwrap_or (option_and_then known_version (option_and_then as_u64 (option_and_then as_number (get_member (codes "version") ms)))) 1

abbrev pub props_of : Raw → Members
props_of (raw kind name enabled ms below) = ms

-- the root, which has no element above it
abbrev pub root_spot : ℕ → Spot
root_spot version = record { above = None; depth = 1; inside = false; parent = 0; places = []; version = version }

-- the version of the plan with these elements
abbrev pub version_in_kind : Kind → ℕ
version_in_kind (kinds.TestPlan version) = version
version_in_kind kind = 1

abbrev pub version_in : List Element → ℕ
version_in [] = 1
version_in (e ∷ es) = version_in_kind e.kind

abbrev pub tree_of : List Element → Tree
tree_of es = record { version = version_in es; elements = es }

-- after the walk: a thread group, and not too many threads, labels and locks
unfoldable pub counted : List Element → Reads Tree
counted es =
    refuse_if (not (list_any is_group_element es)) (MissingProp (record { places = []; prop = Some (codes "children") })) >>= (λ _.
    refuse_if (nat_lt 64 (length (threads_in es))) (TooMany (at []) what.Threads) >>= (λ _.
    refuse_if (nat_lt 256 (length (labels_of es))) (TooMany (at []) what.Labels) >>= (λ _.
    refuse_if (nat_lt 256 (length (locks_of es))) (TooMany (at []) what.Locks) >>= (λ _.
    over (tree_of es)))))

-- the elements of a tree
unfoldable pub walked : Raw → Reads (List Element)
walked tree = elements (root_spot (version_of (props_of tree))) 0 tree

-- the plan of a tree, or the first refusal, with the patterns that are asked for on the way
unfoldable pub reading : Raw → Reads Tree
reading tree = walked tree >>= counted

-- elements that are those of a tree
abbrev pub IsWalked : List Element → Type 0
IsWalked es = (tree : Raw) × (outcome (walked tree) ≡ Ok es)

-- ---- what the code answers

abbrev pub spot_of : CodeSpot → List ℕ → Spot
spot_of s places = record { above = s.above; depth = s.depth; inside = s.inside; parent = s.parent; places = places; version = s.version }

abbrev pub with_children : List Element → ℕ → List ℕ → List Element
with_children [] n cs = []
with_children (e ∷ es) zero cs = record e { children = cs } ∷ es
with_children (e ∷ es) (suc n) cs = e ∷ with_children es n cs

-- a call refused with this, unless the size of a pattern or memory was the cause
abbrev pub Refuses : Result Tree BuildError → BuildError → Type 0
Refuses (Ok plan) e = ⊥
Refuses (Err r) e = IsByPlan r → r ≡ e

-- what a call added to a list of elements is what the reading gives, unless it ran out of memory
abbrev pub Adds : Asked → Reads (List Element) → List Element → Result (Unit {0}) BuildError → List Element → Asked → Type 0
Adds before reading old (Ok _) new after = (xs : List Element) × (new ≡ old ++ xs) × Goes before reading (over xs) after
Adds before reading old (Err e) new after = Fails before reading e after
