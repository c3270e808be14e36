use Rattle.std.proofs.Common.{None}
use Rattle.std.specs.Prelude.{map}
use Rattle.std.proofs.lemmas.Result.{err_from_is_err_and}
use Rattle.var_changes.proofs.ChangeLaws.{standing-stopped}
use Rattle.extractors.specs.Extraction.{sets_matches, sets_default}
use Rattle.extractors.specs.Matches.{plain}
use Rattle.extractors.proofs.TakingLaws.{all-unbegun, all-begun, all-set}
use Rattle.extractors.proofs.taking.take_all_texts.Goals as goal

pub returns-in_err-begin_all : goal.returns-in_err-begin_all
returns-in_err-begin_all c =
    let p = err_from_is_err_and c.from_residual.result c.from_residual.ensures.1 in
    rw (p.1, p.2) (record {
      exact = all-unbegun plain c.args.name.now c.args.default.now None c.args.texts.now c.args.vars.now c.begin_all.new.vars c.in_err-begin_all.field-0.0 c.in_err-begin_all.ensures.exact;
    })

pub returns-in_err-put_texts : goal.returns-in_err-put_texts
returns-in_err-put_texts c =
    let p = err_from_is_err_and c.from_residual-in_err-put_texts.result c.from_residual-in_err-put_texts.ensures.1 in
    rw (p.1, p.2) (record {
      exact = standing-stopped _ (sets_matches c.args.name.now 1 (map plain c.args.texts.now)) (sets_default c.args.name.now c.args.default.now) _ c.begin_all.new.vars c.put_texts.new.vars c.in_err-put_texts.field-0.0
          (all-begun plain c.args.name.now c.args.default.now None c.args.texts.now c.args.vars.now c.begin_all.new.vars c.in_ok-begin_all.ensures.exact) c.in_err-put_texts.ensures.exact;
    })

pub returns : goal.returns
returns c = record {
  exact = all-set plain c.args.name.now c.args.default.now None c.args.texts.now c.args.vars.now c.begin_all.new.vars c.put_texts.new.vars c.put_default.new.vars c.put_default.result
      c.in_ok-begin_all.ensures.exact c.in_ok-put_texts.ensures.exact c.put_default.ensures.exact;
}
