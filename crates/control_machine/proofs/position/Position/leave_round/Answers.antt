use Rattle.std.proofs.Common.{◌∙◌, refl, arith}
use Rattle.control_machine.specs.Left.{own_at}
use Rattle.control_machine.proofs.Leaving.{stop_same, loop_same, loop_stands, finishes}
use Rattle.control_machine.proofs.position.Position.leave_round.Goals as goal

pub returns-in-Stop-clause-leaves : goal.returns-in-Stop-clause-leaves
returns-in-Stop-clause-leaves c = λ plan stands away. record {
  same = λ beside user. stop_same plan c.args.self.now c.in-Stop.end user (own_at c.args.self.now beside) c.requires.empty c.in-Stop.is stands refl;
  goes = record {
    given = finishes c.in-Stop.end (rw c.in-Stop.is at stands.signal);
    stands = stands;
    normal = tt;
    lock = rw c.requires.empty (refl, refl);
    rounds = omega arith;
    index = tt;
  };
}

pub next_round-requires : goal.next_round-requires
next_round-requires c = c.requires.bound

pub returns : goal.returns
returns c = record {
  leaves = λ plan stands away.
      let left = c.next_round.ensures.leaves plan (loop_stands plan c.args.self.now stands) c.requires.empty refl (omega arith) in
      record {
        same = λ beside user. loop_same plan c.args.self.now user (own_at c.args.self.now beside) c.requires.empty away c.in_default.not-Stop ∙ left.same beside user;
        goes = left.goes;
      };
  thread = c.next_round.ensures.thread;
}
