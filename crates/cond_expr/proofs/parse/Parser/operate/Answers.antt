use Rattle.std.proofs.Common.{ℕ, true, rules, refl, sym, ◌∙◌, subst, List}
use Rattle.cond_expr.specs.declared.parse.Parser.{Parser}
use Rattle.cond_expr.specs.ConditionTree.{Reading}
use Rattle.cond_expr.specs.ConditionMachine.{Frame, settled}
use Rattle.cond_expr.specs.ConditionHolding.{IsOperandHeld, Holds}
use Rattle.cond_expr.proofs.ParserLaws.{operator_takes}
use Rattle.cond_expr.proofs.parse.Parser.operate.Goals as goal

pub returns : goal.returns
returns c =
    let new : Parser = record { steps = c.settle.new.self.steps; pending = c.push.new.self; depth = c.settle.new.self.depth; awaiting = true } in
    let Settles : ℕ → Type 0 = λ n. (fs : List Frame) (r : Reading) → IsOperandHeld c.args.self.now fs r → Holds c.settle.new.self (settled n fs r) in
    operator_takes c.args.at c.args.operator c.args.self.now c.settle.new.self new c.if-self.false (λ fs held. sym (c.chains.ensures fs held) ∙ c.if-chains.false)
    (subst Settles c.strength.ensures c.in_ok-settle.ensures) refl (search rules) refl refl
