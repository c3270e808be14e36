-- The reading of a tree refuses nothing in the name of the maker of patterns.
use Rattle.std.proofs.Common.{◌≡◌, ℕ, ◌+◌, Bool, true, false, not, List, ◌∷◌, ◌++◌, length, Option, Some, None, refl, nat_lt, nat_le, if◌then◌else◌}
use Rattle.std.specs.List.{list_any}
use Rattle.serde_json.specs.Data.{Members}
use Rattle.plan_json.specs.Shape.{Raw, raw, Raws, no_raws, raw_then}
use Rattle.element_props.specs.Reads.{Reads, over, ◌>>=◌, refuse_if, or_refuse}
use Rattle.element_props.specs.Props.{own_properties}
use Rattle.element_props.proofs.OwnLaws.{Own, own_bind, own_refuse_if, own_or_refuse, own_if, own_all}
use Rattle.element_tree.specs.declared.kinds.Element.{Element}
use Rattle.element_tree.specs.declared.types.ElementType.{ElementType}
use Rattle.element_tree.specs.Table.{rows, type_of_name}
use Rattle.element_tree.specs.Kinds.{kind_of}
use Rattle.element_tree.specs.Names.{labels_of, locks_of}
use Rattle.element_tree.specs.Threads.{threads_in, is_group_element}
use Rattle.element_tree.specs.Walk.{Spot, placed, is_right, own, child_spot, at_place, elements, below, is_enabled, counted, walked, reading, root_spot, version_of, props_of}

own_placed : (s : Spot) (n : ℕ) (kind name : List ℕ) (enabled : Bool) (cs : Raws) → Own (placed s n kind name enabled cs)
own_placed s n kind name enabled cs =
    own_bind (refuse_if (nat_le 4096 n) _) _ (own_refuse_if (nat_le 4096 n) _ refl) (λ a.
    own_bind (or_refuse (type_of_name kind) _) _ (own_or_refuse (type_of_name kind) _ refl) (λ t.
    own_bind (refuse_if (nat_lt 32 s.depth) _) _ (own_refuse_if (nat_lt 32 s.depth) _ refl) (λ b.
    own_bind (refuse_if (not (is_right s enabled cs t)) _) _ (own_refuse_if (not (is_right s enabled cs t)) _ refl) (λ c.
    own_bind (refuse_if (nat_lt 256 (length name)) _) _ (own_refuse_if (nat_lt 256 (length name)) _ refl) (λ d. tt)))))

own_own : (s : Spot) (n : ℕ) (kind name : List ℕ) (enabled : Bool) (ms : Members) (cs : Raws) → Own (own s n kind name enabled ms cs)
unfolding own
own_own s n kind name enabled ms cs =
    own_bind (placed s n kind name enabled cs) _ (own_placed s n kind name enabled cs) (λ t.
    own_bind (own_properties s.places ms (rows s.version t)) _ (own_all s.places ms (rows s.version t)) (λ ps.
    own_bind (or_refuse (kind_of t ps) _) _ (own_or_refuse (kind_of t ps) _ refl) (λ made. tt)))

mutual
  unfolding elements

  own_elements : (r : Raw) (s : Spot) (n : ℕ) → Own (elements s n r)
  own_elements (raw kind name enabled ms cs) s n =
      own_bind (own s n kind name enabled ms cs) _ (own_own s n kind name enabled ms cs) (λ o.
      own_bind (below (child_spot s o.0 n) 0 (n + 1) cs) _ (own_below cs (child_spot s o.0 n) 0 (n + 1)) (λ b. tt))

  own_below : (rs : Raws) (s : Spot) (place n : ℕ) → Own (below s place n rs)
  own_below no_raws s place n = tt
  own_below (raw_then r rs) s place n =
      own_if (is_enabled r) _ _
      (own_bind (elements (at_place s place) n r) _ (own_elements r (at_place s place) n) (λ xs.
      own_bind (below s (place + 1) (n + length xs) rs) _ (own_below rs s (place + 1) (n + length xs)) (λ b. tt)))
      (own_below rs s (place + 1) n)

own_counted : (es : List Element) → Own (counted es)
unfolding counted
own_counted es =
    own_bind (refuse_if (not (list_any is_group_element es)) _) _ (own_refuse_if (not (list_any is_group_element es)) _ refl) (λ a.
    own_bind (refuse_if (nat_lt 64 (length (threads_in es))) _) _ (own_refuse_if (nat_lt 64 (length (threads_in es))) _ refl) (λ b.
    own_bind (refuse_if (nat_lt 256 (length (labels_of es))) _) _ (own_refuse_if (nat_lt 256 (length (labels_of es))) _ refl) (λ c.
    own_bind (refuse_if (nat_lt 256 (length (locks_of es))) _) _ (own_refuse_if (nat_lt 256 (length (locks_of es))) _ refl) (λ d. tt))))

pub own_reading : (tree : Raw) → Own (reading tree)
unfolding reading walked
own_reading tree = own_bind (elements (root_spot (version_of (props_of tree))) 0 tree) counted (own_elements tree (root_spot (version_of (props_of tree))) 0) own_counted
