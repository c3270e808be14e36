use Rattle.std.proofs.Common.{refl, ◌∙◌}
use Rattle.std.specs.Prelude.{map}
use Rattle.var_changes.proofs.ChangeLaws.{standing-last}
use Rattle.extractors.specs.Extraction.{sets_all_groups}
use Rattle.extractors.specs.Matches.{text_at, match_by}
use Rattle.extractors.proofs.SetLaws.{match-begun}
use Rattle.extractors.proofs.set.put_match.Goals as goal

pub returns : goal.returns
returns c = record {
  exact = standing-last _ (sets_all_groups c.args.name.now (map (text_at c.args.text.now) c.args.spans.now)) _ c.put_copy.new.self c.put_all_groups.new.vars c.put_all_groups.result
      (match-begun c.args.name.now c.args.name.now c.bytes.result.now (match_by c.args.template.now c.args.text.now c.args.spans.now) c.args.vars.now c.put_copy.new.self refl (c.bytes.ensures ∙ c.in_ok-value.ensures.value) c.in_ok-put_copy.ensures.exact)
      c.put_all_groups.ensures.exact;
}
