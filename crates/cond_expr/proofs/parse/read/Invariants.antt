use Rattle.std.proofs.Common.{◌≡◌, ◌-◌, [], length, drop}
use Rattle.cond_expr.specs.Tokens.{tokens_from, tokens}
use Rattle.cond_expr.specs.ConditionMachine.{State, awaiting, run}
use Rattle.cond_expr.specs.ConditionHolding.{Holds}
use Rattle.cond_expr.proofs.parse.read.Given as goal

abbrev pub invariant-loop-at : goal.invariant-loop-at
invariant-loop-at l =
    (s : State) × Holds l.parser s × (run (tokens_from l.at 0 (drop l.at l.text)) s ≡ run (tokens l.text) (awaiting []))

abbrev pub decreases-loop-at : goal.decreases-loop-at
decreases-loop-at l = length l.text - l.at
