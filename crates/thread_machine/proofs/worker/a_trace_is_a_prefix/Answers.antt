use Rattle.thread_machine.proofs.Ends.{shows_a_prefix}
use Rattle.thread_machine.proofs.worker.a_trace_is_a_prefix.Goals as goal

pub returns : goal.returns
returns c = shows_a_prefix
