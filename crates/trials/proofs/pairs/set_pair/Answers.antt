use Rattle.std.proofs.Common.{◌∙◌}
use Rattle.std.specs.Prelude.{Ok, Err, [], ◌∷◌}
use Rattle.jm_base.specs.Run.{over}
use Rattle.var_changes.specs.Changes.{Sets}
use Rattle.var_changes.proofs.ChangeLaws.{puts-changes}
use Rattle.trials.specs.Tried.{fine, past_limit, text}
use Rattle.trials.specs.Pairs.{changing}
use Rattle.trials.proofs.TrialLaws.{then-came, then-refused, text-came, change-came}
use Rattle.trials.proofs.CutLaws.{puts_refused}
use Rattle.trials.proofs.pairs.set_pair.Goals as goal

pub returns-in-Ok-clause-came : goal.returns-in-Ok-clause-came
returns-in-Ok-clause-came g c =
    then-came _ _ _ (text c.args.pair.now.value) (λ value. changing (λ vars. Sets c.args.pair.now.name value ∷ [])) c.args.state.now c.expand.new.state c.in-Ok.value
    (λ u. over (fine u (record { vars = c.put_copy.new.vars; fns = c.expand.new.state.fns }))) (over (past_limit (record { vars = c.put_copy.new.vars; fns = c.expand.new.state.fns }))) c.put_copy.result
    (text-came _ _ c.args.pair.now.value c.args.state.now c.expand.new.state (Ok c.in-Ok.value) c.in-Ok.ensures.came c.in-Ok.ensures.vars)
    (change-came _ (λ vars. Sets c.args.pair.now.name c.in-Ok.value ∷ []) c.expand.new.state c.put_copy.new.vars c.put_copy.result
    (puts-changes c.args.pair.now.name c.in-Ok.value c.expand.new.state.vars c.put_copy.new.vars c.put_copy.result
    (rw (c.bytes.ensures, c.bytes-in-Ok.ensures) at c.put_copy.ensures.exact)))

pub returns-in-Err-clause-came : goal.returns-in-Err-clause-came
returns-in-Err-clause-came g c =
    then-refused _ _ (text c.args.pair.now.value) (λ value. changing (λ vars. Sets c.args.pair.now.name value ∷ [])) c.args.state.now c.expand.new.state c.in-Err.error
    (text-came _ _ c.args.pair.now.value c.args.state.now c.expand.new.state (Err c.in-Err.error) c.in-Err.ensures.came c.in-Err.ensures.vars)

pub returns-in-Ok-clause-kept : goal.returns-in-Ok-clause-kept
returns-in-Ok-clause-kept g c =
    puts_refused _ c.expand.new.state.vars c.put_copy.new.vars c.put_copy.result c.put_copy.ensures.exact (λ same. same ∙ c.in-Ok.ensures.vars)
