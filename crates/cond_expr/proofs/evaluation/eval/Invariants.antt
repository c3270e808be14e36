use Rattle.std.proofs.Common.{◌≡◌, List, Some, drop}
use Rattle.cond_expr.specs.declared.value.CondValue.{CondValue}
use Rattle.cond_expr.specs.ConditionWorth.{value_of}
use Rattle.cond_expr.specs.Piles.{pile, outcome_of}
use Rattle.cond_expr.proofs.evaluation.eval.Given as goal

abbrev pub invariant-loop-step : goal.invariant-loop-step
invariant-loop-step l =
    (ws : List CondValue) × (l.values.items ≡ pile ws) × (outcome_of (drop l.step-index l.step-items) ws ≡ Some (value_of l.fn.cond))
