use Rattle.thread_machine.proofs.Ends.{stands_first}
use Rattle.thread_machine.proofs.worker.Worker.new.Goals as goal

pub returns-clause-stands : goal.returns-clause-stands
returns-clause-stands c = λ start.
    stands_first start c.args.plan.now c.args.number (record { seed = c.args.seed; props = c.args.props.now; budget = c.args.budget }) _ c.in_ok-new.ensures.start
