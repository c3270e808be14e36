use Rattle.std.proofs.Common.{ℕ, List, Option, Some, None, sym, ap, ap₂, ◌∙◌}
use Rattle.std.specs.Option.{option_map}
use Rattle.std.proofs.lemmas.Result.{err_from_is_err_and}
use Rattle.reply_search.specs.Found.{groups_of}
use Rattle.extractors.specs.Matches.{match_by}
use Rattle.extractors.proofs.TakingLaws.{one-unbegun, one-set}
use Rattle.extractors.proofs.taking.take_one_row.Goals as goal

pub returns-in_err-remove_groups : goal.returns-in_err-remove_groups
returns-in_err-remove_groups c =
    let p = err_from_is_err_and c.from_residual.result c.from_residual.ensures.1 in
    rw (p.1, p.2) (record {
      exact = one-unbegun c.bytes-name.result.now c.args.x.now.ref_ (Some c.groups_of.result) (Some (groups_of c.args.x.now.pattern)) c.args.x.now.default
          (option_map (λ spans. match_by c.args.x.now.template c.args.text.now spans.items) c.args.row)
          c.args.vars.now c.remove_groups.new.vars c.in_err-remove_groups.field-0.0 c.bytes-name.ensures (ap Some c.groups_of.ensures) c.in_err-remove_groups.ensures.exact;
    })

pub returns-in-Some : goal.returns-in-Some
returns-in-Some c = record {
  exact = one-set c.bytes-name.result.now c.args.x.now.ref_ (Some c.groups_of.result) (Some (groups_of c.args.x.now.pattern)) c.args.x.now.default
      (Some (match_by c.bytes.result.now c.args.text.now c.as_slice.result.now)) (option_map (λ spans. match_by c.args.x.now.template c.args.text.now spans.items) c.args.row)
      c.args.vars.now c.remove_groups.new.vars c.put_match.new.vars c.put_match.result c.bytes-name.ensures (ap Some c.groups_of.ensures)
      (ap₂ (λ (template : List ℕ) (spans : List (Option (ℕ × ℕ))). Some (match_by template c.args.text.now spans)) c.bytes.ensures c.as_slice.ensures.value
      ∙ ap (option_map (λ spans. match_by c.args.x.now.template c.args.text.now spans.items)) (sym c.in-Some.is))
      c.in_ok-remove_groups.ensures.exact c.put_match.ensures.exact;
}

pub returns-in-None : goal.returns-in-None
returns-in-None c = record {
  exact = one-set c.bytes-name.result.now c.args.x.now.ref_ (Some c.groups_of.result) (Some (groups_of c.args.x.now.pattern)) c.args.x.now.default
      None (option_map (λ spans. match_by c.args.x.now.template c.args.text.now spans.items) c.args.row)
      c.args.vars.now c.remove_groups.new.vars c.put_default.new.vars c.put_default.result c.bytes-name.ensures (ap Some c.groups_of.ensures)
      (ap (option_map (λ spans. match_by c.args.x.now.template c.args.text.now spans.items)) (sym c.in-None.is))
      c.in_ok-remove_groups.ensures.exact c.put_default.ensures.exact;
}
