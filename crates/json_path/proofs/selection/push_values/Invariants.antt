use Rattle.std.proofs.Common.{◌≡◌, ◌++◌}
use Rattle.serde_json.specs.View.{members_view}
use Rattle.json_path.specs.Selection.{member_values}
use Rattle.json_path.specs.JsonViews.{data_of}
use Rattle.json_path.proofs.selection.push_values.Given as goal

abbrev pub invariant-loop-value : goal.invariant-loop-value
invariant-loop-value l =
    (goal.iterator-loop-value).can_next l.value-iterator × (goal.iterator-loop-value).is_finite l.value-iterator
    × (data_of l.reached.items ++ member_values (members_view l.value-iterator) ≡ data_of l.fn.reached.items ++ member_values (members_view l.fn.members.entries))
