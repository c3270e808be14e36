use Rattle.std.proofs.Common.{map, drop}
use Rattle.serde_json.specs.View.{view}
use Rattle.plan_json.specs.Shape.{members_in}
use Rattle.element_props.specs.Reads.{Goes}
use Rattle.element_props.specs.Props.{properties}
use Rattle.element_props.specs.RowsSeen.{row_seen}
use Rattle.element_props.proofs.PropsLoop.{props_before}
use Rattle.element_props.proofs.props.properties.Given as goal

abbrev pub invariant-rows : goal.invariant-rows
invariant-rows g l = Goes (g.G.Patterns.account l.fn.patterns) (properties l.fn.places (members_in (view l.fn.props)) (map row_seen l.fn.rows))
    (props_before l.found.items (properties l.fn.places (members_in (view l.fn.props)) (map row_seen (drop l.row-index l.fn.rows)))) (g.G.Patterns.account l.patterns)
