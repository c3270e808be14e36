use Rattle.std.proofs.Common.{Some, ap, length, subst}
use Rattle.std.specs.Prelude.{map, Ok, Err}
use Rattle.std.proofs.lemmas.Result.{err_from_is_err_and}
use Rattle.var_changes.specs.Changes.{Changes}
use Rattle.var_changes.proofs.ChangeLaws.{standing-stopped}
use Rattle.reply_search.specs.Found.{matches_of, groups_of}
use Rattle.extractors.specs.Extraction.{sets_matches, sets_default}
use Rattle.extractors.specs.Matches.{match_by}
use Rattle.extractors.proofs.TakingLaws.{begins-renamed, all-unbegun, all-begun, all-set}
use Rattle.extractors.proofs.taking.take_all_matches.Goals as goal

pub returns-in_err-begin_all : goal.returns-in_err-begin_all
returns-in_err-begin_all c =
    let p = err_from_is_err_and c.from_residual-in_err-begin_all.result c.from_residual-in_err-begin_all.ensures.1 in
    rw (p.1, p.2) (record {
      exact = all-unbegun (match_by c.args.x.now.template c.args.text.now) c.args.x.now.ref_ c.args.x.now.default (Some (groups_of c.args.x.now.pattern)) (matches_of c.args.x.now.pattern c.args.text.now) c.args.vars.now c.begin_all.new.vars c.in_err-begin_all.field-0.0
          (begins-renamed c.bytes-name.result.now c.args.x.now.ref_ (Some c.groups_of.result) (Some (groups_of c.args.x.now.pattern)) c.in_ok-count.count (length (matches_of c.args.x.now.pattern c.args.text.now))
          c.args.vars.now c.begin_all.new.vars (Err c.in_err-begin_all.field-0.0) c.bytes-name.ensures (ap Some c.groups_of.ensures) c.in_ok-count.ensures c.in_err-begin_all.ensures.exact);
    })

pub returns-in_err-put_matches : goal.returns-in_err-put_matches
returns-in_err-put_matches c =
    let p = err_from_is_err_and c.from_residual-in_err-put_matches.result c.from_residual-in_err-put_matches.ensures.1 in
    rw (p.1, p.2) (record {
      exact = standing-stopped _ (sets_matches c.args.x.now.ref_ 1 (map (match_by c.args.x.now.template c.args.text.now) (matches_of c.args.x.now.pattern c.args.text.now))) (sets_default c.args.x.now.ref_ c.args.x.now.default)
          _ c.begin_all.new.vars c.put_matches.new.vars c.in_err-put_matches.field-0.0
          (all-begun (match_by c.args.x.now.template c.args.text.now) c.args.x.now.ref_ c.args.x.now.default (Some (groups_of c.args.x.now.pattern)) (matches_of c.args.x.now.pattern c.args.text.now) c.args.vars.now c.begin_all.new.vars
          (begins-renamed c.bytes-name.result.now c.args.x.now.ref_ (Some c.groups_of.result) (Some (groups_of c.args.x.now.pattern)) c.in_ok-count.count (length (matches_of c.args.x.now.pattern c.args.text.now))
          c.args.vars.now c.begin_all.new.vars (Ok tt) c.bytes-name.ensures (ap Some c.groups_of.ensures) c.in_ok-count.ensures c.in_ok-begin_all.ensures.exact))
          c.in_err-put_matches.ensures.exact;
    })

pub returns : goal.returns
returns c = record {
  exact = all-set (match_by c.args.x.now.template c.args.text.now) c.args.x.now.ref_ c.args.x.now.default (Some (groups_of c.args.x.now.pattern)) (matches_of c.args.x.now.pattern c.args.text.now) c.args.vars.now c.begin_all.new.vars c.put_matches.new.vars c.put_default.new.vars c.put_default.result
      (begins-renamed c.bytes-name.result.now c.args.x.now.ref_ (Some c.groups_of.result) (Some (groups_of c.args.x.now.pattern)) c.in_ok-count.count (length (matches_of c.args.x.now.pattern c.args.text.now))
      c.args.vars.now c.begin_all.new.vars (Ok tt) c.bytes-name.ensures (ap Some c.groups_of.ensures) c.in_ok-count.ensures c.in_ok-begin_all.ensures.exact)
      c.in_ok-put_matches.ensures.exact
      (subst (λ name. Changes (sets_default name c.args.x.now.default) c.put_matches.new.vars c.put_default.new.vars c.put_default.result) c.bytes-name.ensures c.put_default.ensures.exact);
}
