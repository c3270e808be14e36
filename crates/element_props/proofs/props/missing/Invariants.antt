use Rattle.std.proofs.Common.{◌≡◌, drop, map}
use Rattle.serde_json.specs.View.{view}
use Rattle.plan_json.specs.Shape.{members_in}
use Rattle.element_props.specs.Props.{missing}
use Rattle.element_props.specs.RowsSeen.{row_seen}
use Rattle.element_props.proofs.props.missing.Given as goal

abbrev pub invariant-loop-row : goal.invariant-loop-row
invariant-loop-row l = missing (members_in (view l.fn.props)) (map row_seen (drop l.row-index l.rows)) ≡ missing (members_in (view l.fn.props)) (map row_seen l.rows)
