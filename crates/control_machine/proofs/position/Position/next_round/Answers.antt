use Rattle.std.proofs.Common.{refl, sym, ◌∙◌, arith}
use Rattle.control_machine.specs.Left.{own_at}
use Rattle.control_machine.proofs.Rounding.{rounds_are_over, rounds_are_spent, round_has_begun, round_stands}
use Rattle.control_machine.proofs.position.Position.next_round.Goals as goal

pub returns-then-not-round_begins-clause-leaves : goal.returns-then-not-round_begins-clause-leaves
returns-then-not-round_begins-clause-leaves c = λ plan stands empty signal past_all. record {
  same = λ beside user. rounds_are_over plan c.args.self.now user (own_at c.args.self.now beside) stands.group empty signal past_all refl (sym c.round_begins.ensures ∙ c.if-not-round_begins.true);
  goes = record { given = tt; stands = stands; normal = tt; lock = rw empty (refl, refl); rounds = omega arith; index = tt };
}

pub returns-then-self-eq0-clause-leaves : goal.returns-then-self-eq0-clause-leaves
returns-then-self-eq0-clause-leaves c = λ plan stands empty signal past_all. record {
  same = λ beside user. rounds_are_spent plan c.args.self.now user (own_at c.args.self.now beside) stands.group empty signal past_all refl (sym c.round_begins.ensures ∙ c.if-not-round_begins.false) c.if-self-eq0.true;
  goes = record { given = tt; stands = stands; normal = tt; lock = rw empty (refl, refl); rounds = omega arith; index = tt };
}

pub returns-clause-leaves : goal.returns-clause-leaves
returns-clause-leaves c = λ plan stands empty signal past_all. record {
  same = λ beside user. round_has_begun plan c.args.self.now user (own_at c.args.self.now beside) stands.group empty signal past_all refl (sym c.round_begins.ensures ∙ c.if-not-round_begins.false) c.if-self-eq0.false;
  goes = record { given = tt; stands = round_stands plan c.args.self.now stands empty c.if-self-eq0.false; normal = signal; lock = refl; rounds = omega (arith, c.if-self-eq0.false); index = rw c.from.ensures refl };
}
