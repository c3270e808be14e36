use Rattle.jm_base.proofs.RunLaws.{goes-nothing}
use Rattle.sampler_pipeline.proofs.StageLaws.{no-preparation}
use Rattle.var_functions.proofs.LaterLaws.{later_same}
use Rattle.trials.proofs.CutLaws.{on_error}
use Rattle.sampler_pipeline.proofs.pre.prepare_by.Goals as goal

pub returns-in-UserParameters-clause-came : goal.returns-in-UserParameters-clause-came
returns-in-UserParameters-clause-came g c = rw (c.in-UserParameters.is, ← c.as_slice.ensures) c.set_pairs.ensures.came

pub returns-in_default-clause-came : goal.returns-in_default-clause-came
returns-in_default-clause-came g c = rw (no-preparation c.args.kind.now c.in_default.not-UserParameters) (goes-nothing _ _)

pub returns-in_default-clause-later : goal.returns-in_default-clause-later
returns-in_default-clause-later g c = later_same _

pub returns-in-UserParameters-clause-cut : goal.returns-in-UserParameters-clause-cut
returns-in-UserParameters-clause-cut g c = λ none. rw (c.in-UserParameters.is, ← c.as_slice.ensures) (on_error c.set_pairs.result _ c.set_pairs.ensures.cut none)
