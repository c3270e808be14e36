use Rattle.weave_engine.proofs.OneRun.{names_one_run}
use Rattle.weave_engine.proofs.weaving.a_schedule_names_one_run.Goals as goal

pub returns : goal.returns
returns c = names_one_run
