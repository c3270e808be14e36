use Rattle.std.specs.Prelude.{codes}
use Rattle.jm_base.specs.Run.{over}
use Rattle.jm_base.proofs.RunLaws.{goes-bind}
use Rattle.jm_base.specs.declared.types.End.TheVariants.{ValueLimit as PastValueLimit}
use Rattle.std.proofs.Common.{refl}
use Rattle.thread_vars.specs.Vars.{put_var}
use Rattle.var_functions.proofs.CameLaws.{came-first, refused-bind}
use Rattle.jm_meaning.specs.State.{state_of, normal, stopped, on_normal, put}
use Rattle.jm_meaning.specs.Beginning.{set_first, user_variables, last_sample_ok}
use Rattle.jm_meaning.proofs.PartLaws.{puts-came}
use Rattle.trials.proofs.CutLaws.{puts_refused}
use Rattle.jm_meaning.proofs.CutLaws.{prefix_all}
use Rattle.jm_meaning.proofs.beginning.set_first.Goals as goal

pub returns-in-Ok-clause-came : goal.returns-in-Ok-clause-came
returns-in-Ok-clause-came g c = λ own.
    came-first _ _ _ (set_first c.args.plan.now.elements (state_of c.args.state.now own)) (put last_sample_ok (codes "true") (state_of c.set_elements.new.state own))
    (λ u. over (normal (state_of (record { vars = c.put_copy.new.vars; fns = c.set_elements.new.state.fns }) own)))
    (over (stopped PastValueLimit (state_of (record { vars = c.put_copy.new.vars; fns = c.set_elements.new.state.fns }) own))) c.put_copy.result
    (goes-bind (on_normal (put last_sample_ok (codes "true"))) (rw c.elements.ensures.elements at c.in-Ok.ensures.came own))
    (puts-came _ (put_var last_sample_ok (codes "true") c.set_elements.new.state.vars) c.set_elements.new.state own c.put_copy.new.vars c.put_copy.result c.put_copy.ensures.exact)

pub returns-in-Ok-clause-cut : goal.returns-in-Ok-clause-cut
returns-in-Ok-clause-cut g c =
    puts_refused (put_var last_sample_ok (codes "true") c.set_elements.new.state.vars) c.set_elements.new.state.vars c.put_copy.new.vars c.put_copy.result c.put_copy.ensures.exact
    (λ same. prefix_all (user_variables c.args.plan.now.elements) c.args.state.now c.set_elements.new.state (record { vars = c.put_copy.new.vars; fns = c.set_elements.new.state.fns })
    (rw c.elements.ensures.elements at c.in-Ok.ensures.came) same refl)

pub returns-in-Err-clause-came : goal.returns-in-Err-clause-came
returns-in-Err-clause-came g c = λ own. refused-bind (on_normal (put last_sample_ok (codes "true"))) (rw c.elements.ensures.elements at c.in-Err.ensures.came own)

pub returns-in-Err-clause-cut : goal.returns-in-Err-clause-cut
returns-in-Err-clause-cut g c = rw c.elements.ensures.elements at c.in-Err.ensures.cut
