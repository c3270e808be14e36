use Rattle.std.proofs.Common.{◌≡◌, drop, map}
use Rattle.element_props.specs.Props.{has_row}
use Rattle.element_props.specs.RowsSeen.{row_seen}
use Rattle.element_props.proofs.props.has_row.Given as goal

abbrev pub invariant-loop-row : goal.invariant-loop-row
invariant-loop-row l = has_row l.name (map row_seen (drop l.row-index l.rows)) ≡ has_row l.name (map row_seen l.rows)
