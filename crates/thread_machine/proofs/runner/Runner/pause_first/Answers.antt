use Rattle.std.proofs.Common.{arith, refl}
use Rattle.thread_machine.proofs.Steps.{has_begun}
use Rattle.thread_machine.proofs.runner.Runner.pause_first.Goals as goal

pub returns-in_ok-pause-clause-begun : goal.returns-in_ok-pause-clause-begun
returns-in_ok-pause-clause-begun g c = has_begun _ _ c.args.self.now _ c.requires.last (λ none. omega (arith, none, c.if-ms-gt0.true)) c.in_ok-pause.ensures.ok refl c.put.ensures.items
