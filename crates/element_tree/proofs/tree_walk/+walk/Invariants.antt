use Rattle.std.proofs.Common.{◌≡◌, ◌+◌, ◌≤◌, List, [], ◌∷◌, ◌++◌, length, map, drop}
use Rattle.plan_json.specs.TreeSeen.{raw_view, raws_of}
use Rattle.plan_json.specs.declared.raw.RawElement.{out-RawElement}
use Rattle.element_tree.specs.declared.kinds.Element.{Element}
use Rattle.element_props.specs.Reads.{Goes}
use Rattle.element_tree.specs.Walk.{elements, below, spot_of, node}
use Rattle.element_tree.specs.declared.kinds.Kind.{Kind}
use Rattle.element_tree.proofs.WalkLaws.{walk_before}
use Rattle.element_tree.proofs.tree_walk.+walk.Given as goal

abbrev pub decreases-walk : goal.decreases-walk
decreases-walk g l = goal.size-walk g l

abbrev pub invariant-below : goal.invariant-below
invariant-below g l = record {
  made : Kind;
  added : List Element;
  out : l.out.items ≡ (l.fn.out.items ++ node (out-RawElement l.fn.raw).name made l.fn.spot.parent [] ∷ []) ++ added;
  kept : Goes (g.G.Patterns.account l.fn.patterns) (elements (spot_of l.fn.spot l.fn.places.items) (length l.fn.out.items) (raw_view l.fn.raw))
      (walk_before (out-RawElement l.fn.raw).name made l.fn.spot.parent l.numbers.items added
      (below (spot_of l.below l.fn.places.items) l.place (length l.out.items) (raws_of (map raw_view (drop l.place l.child-items))))) (g.G.Patterns.account l.patterns);
  places : l.places.items ≡ l.fn.places.items;
  room : length l.out.items ≤ 4096;
}
