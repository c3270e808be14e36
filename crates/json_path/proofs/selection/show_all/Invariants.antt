use Rattle.std.proofs.Common.{◌≡◌, ◌++◌, drop}
use Rattle.std.specs.List.{filter_map}
use Rattle.json_path.specs.Selection.{shown}
use Rattle.json_path.specs.JsonViews.{data_of}
use Rattle.json_path.proofs.selection.show_all.Given as goal

abbrev pub invariant-loop-value : goal.invariant-loop-value
invariant-loop-value l = l.texts.items ++ filter_map shown (data_of (drop l.value-index l.values)) ≡ filter_map shown (data_of l.values)
