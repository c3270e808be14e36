use Rattle.std.proofs.Common.{Some, subst}
use Rattle.var_changes.specs.Changes.{Changes}
use Rattle.reply_search.specs.Found.{groups_of}
use Rattle.extractors.specs.Extraction.{which_of, extracted}
use Rattle.extractors.specs.Matches.{pattern_matches}
use Rattle.extractors.proofs.extract.extract_regex_with.Goals as goal

pub returns : goal.returns
returns c =
    let x = c.args.x.now in
    record {
      exact = subst (λ seen. Changes (extracted x.ref_ (which_of x.match_) x.default (Some (groups_of x.pattern)) (pattern_matches x.pattern x.template seen) c.args.pick c.args.vars.now) c.args.vars.now c.take_matches.new.vars c.take_matches.result)
          c.text_in-text.ensures c.take_matches.ensures.exact;
    }
