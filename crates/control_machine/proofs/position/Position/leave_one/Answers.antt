use Rattle.std.proofs.Common.{refl, sym, ap, subst}
use Rattle.control_machine.specs.Left.{own_at, open_lock}
use Rattle.control_machine.specs.Turns.{TakesTurn, closing_of}
use Rattle.control_machine.proofs.Leaving.{popped_same}
use Rattle.control_machine.proofs.Closed.{closed_lightens, closed_turn}
use Rattle.control_machine.proofs.Lightening.{popped_light}
use Rattle.control_machine.proofs.position.Position.leave_one.Goals as goal

pub returns-in-Some-clause-leaves : goal.returns-in-Some-clause-leaves
returns-in-Some-clause-leaves c = λ plan stands away.
    let open_ = rw c.in-Some.ensures at stands.open_ in
    let apart = rw c.in-Some.ensures at stands.apart in
    let falls = rw c.in-Some.ensures at stands.falls in
    rw c.close.ensures (record {
      same = λ beside user. popped_same plan c.args.self.now (record c.args.self.now { stack = c.pop.new.self }) c.in-Some.frame user (own_at c.args.self.now beside) c.in-Some.ensures away refl refl refl c.args.self.now.rounds refl;
      goes = subst (λ o. TakesTurn plan c.args.self.now.rounds o (record c.args.self.now { stack = c.pop.new.self }) (closing_of c.args.self.now.signal c.in-Some.frame)) (sym (ap open_lock c.in-Some.ensures))
          (closed_turn plan _ (record c.args.self.now { stack = c.pop.new.self }) c.in-Some.frame open_.0 apart.0.alone
          (record { group = stands.group; open_ = open_.1; apart = apart.1; falls = falls.1; failure = stands.failure; signal = stands.signal; links = stands.links }));
    })

pub returns-in-Some-clause-lighter : goal.returns-in-Some-clause-lighter
returns-in-Some-clause-lighter c = λ elements. rw c.close.ensures
    (closed_lightens c.args.self.now.signal c.in-Some.frame _ _ (popped_light elements c.args.self.now (record c.args.self.now { stack = c.pop.new.self }) c.in-Some.frame c.in-Some.ensures refl refl))

pub returns-in-None-clause-leaves : goal.returns-in-None-clause-leaves
returns-in-None-clause-leaves c = rw c.in-None.ensures.1 at c.leave_round.ensures.leaves
