use Rattle.std.proofs.Common.{◌≡◌, List, vec_len}
use Rattle.cond_expr.specs.ConditionTree.{Reading}
use Rattle.cond_expr.specs.ConditionMachine.{Frame, settled}
use Rattle.cond_expr.specs.ConditionHolding.{IsOperandHeld}
use Rattle.cond_expr.proofs.parse.Parser.settle.Given as goal

abbrev pub invariant-loop-self : goal.invariant-loop-self
invariant-loop-self l =
    (fs : List Frame) (r : Reading) → IsOperandHeld l.initial.self fs r →
    (gs : List Frame) × (u : Reading) × IsOperandHeld l.self gs u × (settled l.strength gs u ≡ settled l.strength fs r)

abbrev pub decreases-loop-self : goal.decreases-loop-self
decreases-loop-self l = vec_len l.self.pending
