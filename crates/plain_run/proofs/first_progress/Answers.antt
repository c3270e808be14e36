use Rattle.plain_run.proofs.ThreadWays.{first-state}
use Rattle.plain_run.proofs.first_progress.Goals as goal

pub returns-clause-state : goal.returns-clause-state
returns-clause-state c =
    first-state c.args.plan.now c.args.thread (record { seed = c.args.seed; props = c.args.props.now; budget = c.args.budget }) c.in_ok-user.user c.in_ok-places.places c.in_ok-config.config.places
    c.in_ok-user.ensures c.in_ok-places.ensures c.in_ok-config.ensures.places
