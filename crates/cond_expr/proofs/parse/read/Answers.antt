use Rattle.std.proofs.Common.{[], ◌∙◌, Bool, refl, ap, subst}
use Rattle.std.proofs.lemmas.List.{take_rest}
use Rattle.cond_expr.specs.Tokens.{token_at}
use Rattle.cond_expr.specs.ConditionMachine.{State, awaiting, next}
use Rattle.cond_expr.specs.ConditionHolding.{Holds, Takes}
use Rattle.cond_expr.proofs.ReadLaws.{space_turn, token_turn, token_stop, end_turn}
use Rattle.cond_expr.proofs.parse.read.Goals as goal

pub loop-at-init : goal.loop-at-init
loop-at-init c = (awaiting [], c.new-parser.ensures, refl)

pub loop-at-preserved-then-text-at-eq32 : goal.loop-at-preserved-then-text-at-eq32
loop-at-preserved-then-text-at-eq32 c = space_turn c.loop-at.parser c.loop-at.at c.args.text.now c.loop-at-test.true c.if-text-at-eq32.true c.loop-at.invariant

pub returns-then-not-stands : goal.returns-then-not-stands
returns-then-not-stands c =
    let Took : Bool → Type 0 = λ b. (s : State) → Holds c.loop-at.parser s → Takes b (next c.loop-at.at c.in_ok-token.token s) c.take.new.self in
    token_stop c.loop-at.parser c.take.new.self c.loop-at.at c.in_ok-token.length c.in_ok-token.token c.args.text.now c.loop-at-test.true c.if-text-at-eq32.false
    c.in_ok-token.ensures.some (c.in_ok-token.ensures.value ∙ ap token_at (take_rest c.args.text.now c.loop-at.at)) (subst Took c.if-not-stands.true c.in_ok-stands.ensures) c.loop-at.invariant

pub loop-at-preserved : goal.loop-at-preserved
loop-at-preserved c =
    let Took : Bool → Type 0 = λ b. (s : State) → Holds c.loop-at.parser s → Takes b (next c.loop-at.at c.in_ok-token.token s) c.take.new.self in
    token_turn c.loop-at.parser c.take.new.self c.loop-at.at c.in_ok-token.length c.in_ok-token.token c.args.text.now c.loop-at-test.true c.if-text-at-eq32.false
    c.in_ok-token.ensures.some (c.in_ok-token.ensures.value ∙ ap token_at (take_rest c.args.text.now c.loop-at.at)) (subst Took c.if-not-stands.false c.in_ok-stands.ensures) c.loop-at.invariant

pub returns : goal.returns
returns c = end_turn c.loop-at.parser c.loop-at.at c.args.text.now c.finish.result c.loop-at-test.false c.finish.ensures c.loop-at.invariant
