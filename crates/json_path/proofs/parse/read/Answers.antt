use Rattle.std.proofs.Common.{Bool, get_or, subst}
use Rattle.json_path.specs.PathMachine.{State, next}
use Rattle.json_path.specs.PathHolding.{Holds, Takes}
use Rattle.json_path.proofs.ReadLaws.{byte_turn, byte_stop, end_turn}
use Rattle.json_path.proofs.parse.read.Goals as goal

pub returns-then-not-stands : goal.returns-then-not-stands
returns-then-not-stands c =
    let Took : Bool → Type 0 = λ b. (s : State) → Holds c.loop-at.parser s → Takes b (next (get_or c.args.text.now c.loop-at.at 0) s) c.take.new.self in
    byte_stop c.loop-at.parser c.take.new.self c.loop-at.at c.args.text.now c.loop-at-test.true (subst Took c.if-not-stands.true c.in_ok-stands.ensures) c.loop-at.invariant

pub loop-at-preserved : goal.loop-at-preserved
loop-at-preserved c =
    let Took : Bool → Type 0 = λ b. (s : State) → Holds c.loop-at.parser s → Takes b (next (get_or c.args.text.now c.loop-at.at 0) s) c.take.new.self in
    byte_turn c.loop-at.parser c.take.new.self c.loop-at.at c.args.text.now c.loop-at-test.true (subst Took c.if-not-stands.false c.in_ok-stands.ensures) c.loop-at.invariant

pub returns : goal.returns
returns c = end_turn c.loop-at.parser c.loop-at.at c.args.text.now _ c.loop-at-test.false c.finish.ensures c.loop-at.invariant
