use Rattle.std.proofs.Common.{◌+◌, ap, drop}
use Rattle.std.specs.Prelude.{map}
use Rattle.std.proofs.lemmas.Result.{err_from_is_err_and}
use Rattle.var_changes.proofs.ChangeLaws.{standing-put, standing-unput}
use Rattle.extractors.specs.Extraction.{sets_matches}
use Rattle.extractors.specs.Matches.{plain}
use Rattle.extractors.proofs.SetLaws.{matches-next}
use Rattle.extractors.proofs.all.put_texts.Goals as goal

pub returns-in_err-put_text : goal.returns-in_err-put_text
returns-in_err-put_text c =
    let p = err_from_is_err_and c.from_residual-in_err-put_text.result c.from_residual-in_err-put_text.ensures.1 in
    rw (p.1, p.2) (record {
      exact = standing-unput _ (sets_matches c.args.name.now (c.texts.place + 1 + 1) (map plain (drop (c.texts.place + 1) c.args.texts.now))) _ c.texts.vars c.put_text.new.vars
          c.in_ok-name.name c.bytes.result.now c.in_err-put_text.field-0.0
          (matches-next plain _ c.args.name.now c.args.texts.now c.texts.place c.index-texts-place.result c.in_ok-name.name (plain c.bytes.result.now) _ c.texts.vars c.texts-test.true c.index-texts-place.is
          c.in_ok-name.ensures (ap plain c.bytes.ensures) c.texts.invariant)
          c.in_err-put_text.ensures.exact;
    })

pub texts-preserved : goal.texts-preserved
texts-preserved c =
    standing-put _ (sets_matches c.args.name.now (c.texts.place + 1 + 1) (map plain (drop (c.texts.place + 1) c.args.texts.now))) _ c.texts.vars c.put_text.new.vars
    c.in_ok-name.name c.bytes.result.now
    (matches-next plain _ c.args.name.now c.args.texts.now c.texts.place c.index-texts-place.result c.in_ok-name.name (plain c.bytes.result.now) _ c.texts.vars c.texts-test.true c.index-texts-place.is
    c.in_ok-name.ensures (ap plain c.bytes.ensures) c.texts.invariant)
    c.in_ok-put_text.ensures.exact
