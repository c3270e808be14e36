use Rattle.std.proofs.Common.{◌≡◌, map}
use Rattle.serde_json.specs.View.{view, members_view}
use Rattle.plan_json.specs.Shape.{members_in}
use Rattle.element_props.specs.Props.{unknown}
use Rattle.element_props.specs.RowsSeen.{row_seen}
use Rattle.element_props.proofs.props.unknown.Given as goal

abbrev pub invariant-loop-key : goal.invariant-loop-key
invariant-loop-key l =
    (goal.iterator-loop-key).can_next l.key-iterator ×
    (goal.iterator-loop-key).is_finite l.key-iterator ×
    (unknown (map row_seen l.fn.rows) (members_view l.key-iterator) ≡ unknown (map row_seen l.fn.rows) (members_in (view l.fn.props)))
