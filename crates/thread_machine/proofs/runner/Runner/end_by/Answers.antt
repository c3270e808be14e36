use Rattle.std.proofs.Common.{sym, subst, refl}
use Rattle.thread_machine.specs.Ran.{EndsBy}
use Rattle.thread_machine.proofs.runner.Runner.end_by.Goals as goal

pub returns-in-Some-clause-ends : goal.returns-in-Some-clause-ends
returns-in-Some-clause-ends c = rw c.in-Some.is (c.leave.ensures.step, c.leave.ensures.items, refl)

pub returns-in-None-clause-ends : goal.returns-in-None-clause-ends
returns-in-None-clause-ends c =
    subst (λ o. EndsBy o c.args.self.now (record c.args.self.now { trace = c.finish.new.self }) c.args.end c.finish.result) (sym c.in-None.is) (c.finish.ensures.step, c.finish.ensures.items, refl)
