use Rattle.std.proofs.Common.{◌≡◌, ◌++◌, drop}
use Rattle.std.specs.List.{flat_map}
use Rattle.json_path.specs.Selection.{step_values}
use Rattle.json_path.specs.JsonViews.{data_of}
use Rattle.json_path.proofs.selection.take_step.Given as goal

abbrev pub invariant-loop-value : goal.invariant-loop-value
invariant-loop-value l = data_of l.reached.items ++ flat_map (step_values l.step) (data_of (drop l.value-index l.values)) ≡ flat_map (step_values l.step) (data_of l.values)
