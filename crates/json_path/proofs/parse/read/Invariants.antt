use Rattle.std.proofs.Common.{◌≡◌, drop}
use Rattle.json_path.specs.PathMachine.{State, start, run}
use Rattle.json_path.specs.PathHolding.{Holds}
use Rattle.json_path.proofs.parse.read.Given as goal

abbrev pub invariant-loop-at : goal.invariant-loop-at
invariant-loop-at l = (s : State) × Holds l.parser s × (run l.at (drop l.at l.text) s ≡ run 0 l.text start)
