use Rattle.std.proofs.Common.{Ok, Err}
use Rattle.thread_machine.proofs.Steps.{set_already, set_now}
use Rattle.thread_machine.proofs.runner.Runner.set_out.Goals as goal

pub returns-then-self-clause-came : goal.returns-then-self-clause-came
returns-then-self-clause-came g c = set_already _ c.args.self.now c.if-self.true

pub returns-in-Ok-clause-came : goal.returns-in-Ok-clause-came
returns-in-Ok-clause-came g c = set_now _ _ c.args.self.now c.set_first.new.state (Ok tt) c.if-self.false (c.requires c.if-self.false) c.in-Ok.ensures.came

pub returns-in-Err-clause-came : goal.returns-in-Err-clause-came
returns-in-Err-clause-came g c = set_now _ _ c.args.self.now c.set_first.new.state (Err c.in-Err.error) c.if-self.false (c.requires c.if-self.false) c.in-Err.ensures.came
