use Rattle.std.proofs.Common.{arith}
use Rattle.thread_machine.proofs.solo.run_alone.Goals as goal

pub returns-clause-has_run : goal.returns-clause-has_run
returns-clause-has_run g c =
    let first = c.in_ok-worker.ensures.start in
    rw (c.into_trace.ensures.items, ← first.plan_is, ← first.thread_is)
    (c.run_to_end-end.ensures.has_run _ (record { seed = c.args.seed; props = c.args.props.now; budget = c.args.budget }) (c.in_ok-worker.ensures.stands _))

pub returns-clause-count : goal.returns-clause-count
returns-clause-count g c = rw c.into_trace.ensures.items (let u = c.in_ok-worker.ensures.start.units_are in let k = c.run_to_end-end.ensures.count in omega (arith, u, k))

pub returns-clause-sections : goal.returns-clause-sections
returns-clause-sections g c = rw (c.into_trace.ensures.closed c.run_to_end-end.ensures.over) at c.into_trace.ensures.sections
