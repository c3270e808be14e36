use Rattle.std.specs.Prelude.{[], ◌∷◌}
use Rattle.trials.proofs.TrialLaws.{change-came}
use Rattle.var_changes.specs.Changes.{Sets}
use Rattle.var_changes.proofs.ChangeLaws.{puts-changes}
use Rattle.sampler_pipeline.specs.SamplerPipeline.{last_sample_ok, truth_text}
use Rattle.var_functions.proofs.LaterLaws.{later_same}
use Rattle.std.proofs.Common.{ap}
use Rattle.var_functions.specs.declared.state.UserState.{UserState}
use Rattle.thread_vars.specs.Vars.{Variables}
use Rattle.trials.proofs.CutLaws.{puts_refused}
use Rattle.sampler_pipeline.proofs.run.note.Goals as goal

pub returns-clause-came : goal.returns-clause-came
returns-clause-came c = λ a sample is.
    change-came a (λ vars. Sets last_sample_ok (truth_text sample.ok) ∷ []) c.args.state.now c.put_last_ok.new.self c.put_last_ok.result
    (puts-changes last_sample_ok (truth_text sample.ok) c.args.state.now.vars c.put_last_ok.new.self c.put_last_ok.result (rw is c.put_last_ok.ensures))

pub returns-clause-later : goal.returns-clause-later
returns-clause-later c = later_same _

pub returns-clause-kept : goal.returns-clause-kept
returns-clause-kept c =
    let with : Variables → UserState = λ vars. record { vars = vars; fns = c.args.state.now.fns } in
    puts_refused _ c.args.state.now.vars c.put_last_ok.new.self c.put_last_ok.result c.put_last_ok.ensures (λ same. ap with same)
