use Rattle.std.proofs.Common.{◌≡◌, drop}
use Rattle.std.specs.List.{flat_map}
use Rattle.serde_json.specs.View.{view}
use Rattle.json_path.specs.Selection.{reached}
use Rattle.json_path.specs.JsonViews.{data_of}
use Rattle.json_path.proofs.selection.reach.Given as goal

abbrev pub invariant-loop-step : goal.invariant-loop-step
invariant-loop-step l = flat_map (reached (drop l.step-index l.steps)) (data_of l.values.items) ≡ reached l.steps (view l.fn.value)
