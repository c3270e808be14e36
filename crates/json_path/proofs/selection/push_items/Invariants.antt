use Rattle.std.proofs.Common.{◌≡◌, ◌++◌, drop}
use Rattle.serde_json.specs.View.{items_view}
use Rattle.json_path.specs.Selection.{item_values}
use Rattle.json_path.specs.JsonViews.{data_of}
use Rattle.json_path.proofs.selection.push_items.Given as goal

abbrev pub invariant-loop-value : goal.invariant-loop-value
invariant-loop-value l = data_of l.reached.items ++ item_values (items_view (drop l.value-index l.items)) ≡ data_of l.fn.reached.items ++ item_values (items_view l.fn.items)
