use Rattle.std.proofs.Common.{◌≡◌, ◌≤◌, drop, map, length}
use Rattle.serde_json.specs.View.{members_view}
use Rattle.element_props.specs.RowsSeen.{row_seen}
use Rattle.element_props.specs.ValueShown.{named_shown_seen}
use Rattle.element_props.specs.PropertiesWritten.{written}
use Rattle.element_props.proofs.written.written_members.Given as goal

abbrev pub invariant-loop-left : goal.invariant-loop-left
invariant-loop-left l = record {
  rows : l.left ≤ length l.rows;
  values : l.left ≤ length l.values;
  done : members_view l.map.entries ≡ written (map row_seen (drop l.left l.rows)) (map named_shown_seen (drop l.left l.values));
}

abbrev pub decreases-loop-left : goal.decreases-loop-left
decreases-loop-left l = l.left
