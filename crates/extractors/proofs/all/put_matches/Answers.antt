use Rattle.std.proofs.Common.{ap, subst, ap₂}
use Rattle.std.specs.Prelude.{map}
use Rattle.reply_search.specs.Found.{matches_of}
use Rattle.var_changes.specs.Changes.{Changes}
use Rattle.extractors.specs.Extraction.{sets_matches}
use Rattle.extractors.specs.Matches.{match_by}
use Rattle.extractors.proofs.all.put_matches.Goals as goal

pub returns : goal.returns
returns c =
    let x = c.args.x.now in
    let seen = c.args.text.now in
    record {
      exact = subst (λ changes. Changes changes c.args.vars.now c.put_found.new.vars c.put_found.result)
          (ap₂ (λ name template. sets_matches name 1 (map (match_by template seen) (matches_of x.pattern seen))) c.bytes-name.ensures c.bytes-template.ensures)
          c.put_found.ensures.exact;
    }
