use Rattle.std.proofs.Common.{◌≡◌, ◌++◌, drop, map}
use Rattle.plan_json.specs.TreeSeen.{raw_view, raws_of}
use Rattle.jm_command.specs.Refusals.{places_of, places_below}
use Rattle.jm_command.proofs.places.+push_places.Given as goal

abbrev pub decreases-push_places : goal.decreases-push_places
decreases-push_places l = goal.size-push_places l

abbrev pub invariant-below : goal.invariant-below
invariant-below l = record {
  here : l.here.items ≡ l.fn.here.items;
  all : l.all.items ++ places_below l.fn.here.items l.place (raws_of (map raw_view (drop l.place l.child-items))) ≡ l.fn.all.items ++ places_of l.fn.here.items (raw_view l.fn.tree);
}
