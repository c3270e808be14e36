use Rattle.std.proofs.Common.{◌+◌, drop, None}
use Rattle.std.specs.Prelude.{map}
use Rattle.std.proofs.lemmas.Result.{err_from_is_err_and}
use Rattle.var_changes.proofs.ChangeLaws.{standing-put, standing-unput}
use Rattle.extractors.specs.Extraction.{sets_groups}
use Rattle.extractors.specs.Matches.{text_at}
use Rattle.extractors.proofs.SetLaws.{groups-next}
use Rattle.extractors.proofs.set.put_groups.Goals as goal

pub returns-in_err-put_text : goal.returns-in_err-put_text
returns-in_err-put_text c =
    let p = err_from_is_err_and c.from_residual-in_err-put_text.result c.from_residual-in_err-put_text.ensures.1 in
    rw (p.1, p.2) (record {
      exact = standing-unput _ (sets_groups c.args.name.now (c.groups.number + 1) (map (text_at c.args.text.now) (drop (c.groups.number + 1) c.args.spans.now))) _ c.groups.vars c.put_text.new.vars
          c.in_ok-name.name c.text_at.result.now c.in_err-put_text.field-0.0
          (groups-next (text_at c.args.text.now) _ c.args.name.now c.args.spans.now c.groups.number None c.in_ok-name.name c.text_at.result.now _ c.groups.vars c.groups-test.true
          c.in_ok-name.ensures c.text_at.ensures c.groups.invariant)
          c.in_err-put_text.ensures.exact;
    })

pub groups-preserved : goal.groups-preserved
groups-preserved c =
    standing-put _ (sets_groups c.args.name.now (c.groups.number + 1) (map (text_at c.args.text.now) (drop (c.groups.number + 1) c.args.spans.now))) _ c.groups.vars c.put_text.new.vars
    c.in_ok-name.name c.text_at.result.now
    (groups-next (text_at c.args.text.now) _ c.args.name.now c.args.spans.now c.groups.number None c.in_ok-name.name c.text_at.result.now _ c.groups.vars c.groups-test.true
    c.in_ok-name.ensures c.text_at.ensures c.groups.invariant)
    c.in_ok-put_text.ensures.exact
