use Rattle.std.proofs.Common.{◌≡◌, true, drop, map}
use Rattle.std.specs.List.{list_all}
use Rattle.serde_json.specs.Data.{depth}
use Rattle.serde_json.specs.View.{view, items_view}
use Rattle.plan_json.specs.Shape.{shapes, children_in, members_in}
use Rattle.plan_json.specs.TreeSeen.{raw_view, has_objects}
use Rattle.plan_json.proofs.ShapeLaws.{before_these}
use Rattle.plan_json.proofs.read.+element_of.Given as goal

abbrev pub decreases-element_of : goal.decreases-element_of
decreases-element_of l = depth (view l.value.now)

abbrev pub invariant-below : goal.invariant-below
invariant-below l = record {
  below : before_these (map raw_view l.children.items) (shapes l.fn.places.items l.place (items_view (drop l.place l.item-items))) ≡ shapes l.fn.places.items 0 (items_view l.item-items);
  places : l.places.items ≡ l.fn.places.items;
  objects : list_all (λ b. b) (map has_objects l.children.items) ≡ true;
  items : items_view l.item-items ≡ children_in (members_in (view l.fn.value));
}
