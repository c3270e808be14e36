use Rattle.std.specs.Prelude.{map}
use Rattle.std.proofs.lemmas.Result.{err_from_is_err_and}
use Rattle.var_changes.specs.Changes.{setting}
use Rattle.var_changes.proofs.ChangeLaws.{standing-put, standing-unput}
use Rattle.var_changes.proofs.put.put_all.Goals as goal

pub variables-preserved : goal.variables-preserved
variables-preserved c =
    standing-put _ (map setting c.next.new.self.rest.items) _ c.variables.vars c.put.new.self c.in-Some.variable.name c.in-Some.variable.value
    (rw c.in-Some.ensures.steps.0 at c.variables.invariant) c.in_ok-put.ensures.exact

pub returns-in_err-put : goal.returns-in_err-put
returns-in_err-put c =
    let p = err_from_is_err_and c.from_residual.result c.from_residual.ensures.1 in
    rw (p.1, p.2) (record {
      exact = standing-unput _ (map setting c.next.new.self.rest.items) _ c.variables.vars c.put.new.self c.in-Some.variable.name c.in-Some.variable.value c.in_err-put.field-0.0
          (rw c.in-Some.ensures.steps.0 at c.variables.invariant) c.in_err-put.ensures.exact;
    })
