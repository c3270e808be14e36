use Rattle.std.proofs.Common.{◌≡◌, drop}
use Rattle.serde_json.specs.View.{view, items_view, members_view}
use Rattle.element_props.specs.Forms.{has_long, items_have_long, members_have_long}
use Rattle.element_props.proofs.forms.+has_long.Given as goal

abbrev pub decreases-has_long : goal.decreases-has_long
decreases-has_long l = goal.size-has_long l

abbrev pub invariant-loop-item : goal.invariant-loop-item
invariant-loop-item l = items_have_long l.fn.limit (items_view (drop l.item-index l.item-items)) ≡ has_long l.fn.limit (view l.fn.value)

abbrev pub invariant-loop-item-2 : goal.invariant-loop-item-2
invariant-loop-item-2 l =
    (goal.iterator-loop-item-2).can_next l.item-iterator ×
    (goal.iterator-loop-item-2).is_finite l.item-iterator ×
    (members_have_long l.fn.limit (members_view l.item-iterator) ≡ has_long l.fn.limit (view l.fn.value))
