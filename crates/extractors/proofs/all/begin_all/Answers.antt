use Rattle.std.proofs.Common.{[], ◌∷◌, decimal, refl}
use Rattle.std.proofs.lemmas.Result.{err_from_is_err_and}
use Rattle.var_changes.specs.Changes.{Sets}
use Rattle.var_changes.proofs.ChangeLaws.{standing-stopped, standing-memory, standing-last-put}
use Rattle.extractors.specs.Extraction.{count_name, removes_matches}
use Rattle.extractors.proofs.TakingLaws.{begins-unremoved, begins-second, begins-third}
use Rattle.extractors.proofs.all.begin_all.Goals as goal

pub returns-in_err-remove_groups : goal.returns-in_err-remove_groups
returns-in_err-remove_groups c =
    let p = err_from_is_err_and c.from_residual-in_err-remove_groups.result c.from_residual-in_err-remove_groups.ensures.1 in
    rw (p.1, p.2) (record {
      exact = begins-unremoved c.args.name.now c.args.groups c.args.count c.in_ok-old.old c.args.vars.now c.remove_groups.new.vars c.in_err-remove_groups.field-0.0 c.in_ok-old.ensures c.in_err-remove_groups.ensures.exact;
    })

pub returns-in_err-remove_matches : goal.returns-in_err-remove_matches
returns-in_err-remove_matches c =
    let p = err_from_is_err_and c.from_residual-in_err-remove_matches.result c.from_residual-in_err-remove_matches.ensures.1 in
    rw (p.1, p.2) (record {
      exact = standing-stopped _ (removes_matches c.args.name.now c.args.groups c.in_ok-old.old) (Sets (count_name c.args.name.now) (decimal c.args.count) ∷ []) _ c.remove_groups.new.vars c.remove_matches.new.vars c.in_err-remove_matches.field-0.0
          (begins-second c.args.name.now c.args.groups c.args.count c.in_ok-old.old c.args.vars.now c.remove_groups.new.vars c.in_ok-old.ensures c.in_ok-remove_groups.ensures.exact) c.in_err-remove_matches.ensures.exact;
    })

pub returns-in_err-own : goal.returns-in_err-own
returns-in_err-own c =
    let p = err_from_is_err_and c.from_residual-in_err-own.result c.from_residual-in_err-own.ensures.1 in
    rw (p.1, p.2) (record {
      exact = standing-memory _ (Sets (count_name c.args.name.now) (decimal c.args.count) ∷ []) _ c.remove_matches.new.vars
          (begins-third c.args.name.now c.args.groups c.args.count c.in_ok-old.old (count_name c.args.name.now) c.args.vars.now c.remove_groups.new.vars c.remove_matches.new.vars c.in_ok-old.ensures refl
          c.in_ok-remove_groups.ensures.exact c.in_ok-remove_matches.ensures.exact);
    })

pub returns : goal.returns
returns c = record {
  exact = standing-last-put _ _ c.remove_matches.new.vars c.put_number.new.vars c.in_ok-own.own (decimal c.args.count) c.put_number.result
      (begins-third c.args.name.now c.args.groups c.args.count c.in_ok-old.old c.in_ok-own.own c.args.vars.now c.remove_groups.new.vars c.remove_matches.new.vars c.in_ok-old.ensures c.in_ok-own.ensures
      c.in_ok-remove_groups.ensures.exact c.in_ok-remove_matches.ensures.exact)
      c.put_number.ensures.exact;
}
