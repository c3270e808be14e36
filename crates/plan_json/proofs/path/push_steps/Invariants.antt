use Rattle.std.proofs.Common.{◌≡◌, ◌++◌, drop}
use Rattle.plan_json.specs.Place.{steps_text}
use Rattle.plan_json.proofs.path.push_steps.Given as goal

abbrev pub invariant-loop-place : goal.invariant-loop-place
invariant-loop-place l = l.out.items ++ steps_text (drop l.place-index l.places) ≡ l.fn.out.items ++ steps_text l.places
