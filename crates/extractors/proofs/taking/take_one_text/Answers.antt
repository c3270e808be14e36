use Rattle.std.proofs.Common.{Some, None, [], ◌∷◌, sym, subst}
use Rattle.std.specs.Prelude.{map}
use Rattle.var_changes.specs.Changes.{Sets}
use Rattle.var_changes.proofs.ChangeLaws.{Standing, standing-last, standing-last-put}
use Rattle.extractors.specs.Extraction.{taken, takes_one, sets_default}
use Rattle.extractors.specs.Matches.{plain}
use Rattle.extractors.proofs.TakingLaws.{one-first}
use Rattle.extractors.proofs.taking.take_one_text.Goals as goal

pub returns-in-Some : goal.returns-in-Some
returns-in-Some c = record {
  exact = standing-last-put _ _ c.args.vars.now c.put_copy.new.vars c.args.name.now c.bytes.result.now c.put_copy.result
      (subst (λ text. Standing (takes_one c.args.name.now c.args.default.now None (taken c.args.which c.args.pick (map plain c.args.texts.now))) c.args.vars.now (Sets c.args.name.now text ∷ []) c.args.vars.now) (sym c.bytes.ensures)
      (one-first plain c.args.name.now c.args.default.now None c.args.which c.args.pick c.args.texts.now (Some c.in-Some.text.now) c.args.vars.now c.in-Some.ensures))
      c.put_copy.ensures.exact;
}

pub returns-in-None : goal.returns-in-None
returns-in-None c = record {
  exact = standing-last _ (sets_default c.args.name.now c.args.default.now) _ c.args.vars.now c.put_default.new.vars c.put_default.result
      (one-first plain c.args.name.now c.args.default.now None c.args.which c.args.pick c.args.texts.now None c.args.vars.now c.in-None.ensures)
      c.put_default.ensures.exact;
}
