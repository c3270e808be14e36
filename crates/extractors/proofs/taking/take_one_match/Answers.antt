use Rattle.std.proofs.Common.{Some, ap, ◌∙◌, subst}
use Rattle.std.specs.Option.{option_map}
use Rattle.var_changes.specs.Changes.{Changes}
use Rattle.reply_search.specs.Found.{matches_of, groups_of}
use Rattle.extractors.specs.Extraction.{takes_one}
use Rattle.extractors.specs.Matches.{match_by}
use Rattle.extractors.proofs.TakingLaws.{row-taken}
use Rattle.extractors.proofs.taking.take_one_match.Goals as goal

pub returns : goal.returns
returns c =
    let x = c.args.x.now in
    let seen = c.args.text.now in
    record {
      exact = subst (λ m. Changes (takes_one x.ref_ x.default (Some (groups_of x.pattern)) m) c.args.vars.now c.take_one_row.new.vars c.take_one_row.result)
          (ap (λ text. option_map (λ spans. match_by x.template text spans.items) c.in_ok-row.row) c.as_bytes.ensures.value
          ∙ row-taken (match_by x.template seen) (λ spans. spans.items) c.in_ok-row.row c.args.which c.args.pick (matches_of x.pattern seen) c.in_ok-row.ensures)
          c.take_one_row.ensures.exact;
    }
