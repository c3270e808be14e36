-- A plan as it is written: the tree of its elements as compact JSON.
use Rattle.std.specs.Prelude.{ℕ, zero, suc, Bool, true, List, [], ◌∷◌, Option, Some, None, slice_get}
use Rattle.std.specs.Str.Lossy.{utf8_lossy}
use Rattle.serde_json.specs.Data.{Data, boolean, string, array, object, Items, no_items, item, Members, no_members, member}
use Rattle.serde_json.specs.Written.{compact_text}
use Rattle.plan_json.specs.Shape.{Raw, raw, Raws, no_raws, raw_then, type_key, name_key, enabled_key, props_key, children_key}
use Rattle.element_props.specs.PropertiesWritten.{written}
use Rattle.element_tree.specs.declared.kinds.Element.{Element}
use Rattle.element_tree.specs.declared.kinds.Kind.{Kind}
use Rattle.element_tree.specs.Types.{type_of}
use Rattle.element_tree.specs.Table.{rows, type_name}
use Rattle.element_tree.specs.Values.{values_of}
use Rattle.element_tree.specs.Tree.{Tree}

-- an element with all five keys, in byte order
abbrev pub five_keys : List ℕ → List ℕ → Bool → Members → Items → Data
five_keys kind name enabled props children =
    object (member children_key (array children) (member enabled_key (boolean enabled) (member name_key (string name) (member props_key (object props) (member type_key (string kind) no_members)))))

-- a tree of elements as JSON
abbrev mutual
  pub data_of : Raw → Data
  data_of (raw kind name enabled props below) = five_keys kind name enabled props (items_of below)

  pub items_of : Raws → Items
  items_of no_raws = no_items
  items_of (raw_then r rs) = item (data_of r) (items_of rs)

-- in a plan of this version: exactly the properties whose value differs from the default
abbrev pub written_props : ℕ → Kind → Members
written_props version kind = written (rows version (type_of kind)) (values_of kind)

abbrev pub trees : (ℕ → Raw) → List ℕ → Raws
trees below [] = no_raws
trees below (n ∷ ns) = raw_then (below n) (trees below ns)

abbrev pub tree_at : ℕ → (ℕ → Raw) → Option Element → Raw
tree_at version below None = raw [] [] true no_members no_raws
tree_at version below (Some e) = raw (type_name (type_of e.kind)) (utf8_lossy e.name) true (written_props version e.kind) (trees below e.children)

-- the tree of the element of this number, where elements nest at most that deep
unfoldable pub written_tree : ℕ → Tree → ℕ → Raw
written_tree zero plan n = raw [] [] true no_members no_raws
written_tree (suc depth) plan n = tree_at plan.version (written_tree depth plan) (slice_get plan.elements n)

-- the tree of a plan's elements, and the JSON value and the text that are written for the plan
abbrev pub plan_tree : Tree → Raw
plan_tree plan = written_tree 32 plan 0

unfoldable pub plan_data : Tree → Data
plan_data plan = data_of (plan_tree plan)

abbrev pub plan_text : Tree → List ℕ
plan_text plan = compact_text (plan_data plan)
