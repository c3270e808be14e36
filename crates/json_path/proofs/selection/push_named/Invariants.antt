use Rattle.std.proofs.Common.{◌≡◌, ◌++◌}
use Rattle.serde_json.specs.View.{members_view}
use Rattle.json_path.specs.Selection.{named}
use Rattle.json_path.specs.JsonViews.{data_of}
use Rattle.json_path.proofs.selection.push_named.Given as goal

abbrev pub invariant-loop-key : goal.invariant-loop-key
invariant-loop-key l =
    (goal.iterator-loop-key).can_next l.key-iterator × (goal.iterator-loop-key).is_finite l.key-iterator
    × (data_of l.reached.items ++ named l.name (members_view l.key-iterator) ≡ data_of l.fn.reached.items ++ named l.name (members_view l.fn.members.entries))
