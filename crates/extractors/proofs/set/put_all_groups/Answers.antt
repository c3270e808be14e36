use Rattle.std.proofs.Common.{sym, ◌∙◌}
use Rattle.std.specs.Prelude.{map}
use Rattle.var_changes.proofs.ChangeLaws.{standing-last}
use Rattle.extractors.specs.Extraction.{sets_groups}
use Rattle.extractors.specs.Matches.{text_at}
use Rattle.extractors.proofs.SetLaws.{groups-begun}
use Rattle.extractors.proofs.set.put_all_groups.Goals as goal

pub returns : goal.returns
returns c = record {
  exact = standing-last _ (sets_groups c.args.name.now 0 (map (text_at c.args.text.now) c.args.spans.now)) _ c.put_number.new.vars c.put_groups.new.vars c.put_groups.result
      (groups-begun (text_at c.args.text.now) c.args.name.now c.args.spans.now c.in_ok-count.count c.args.vars.now c.put_number.new.vars (sym c.is_empty.ensures ∙ c.if-is_empty.false) c.in_ok-count.ensures c.in_ok-put_number.ensures.exact)
      c.put_groups.ensures.exact;
}
