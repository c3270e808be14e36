use Rattle.std.proofs.Common.{◌∙◌, ap, length}
use Rattle.regex.specs.Patterns.{find_all_str}
use Rattle.reply_search.specs.Found.{matches_of}
use Rattle.reply_search.proofs.Kept.{kept_count}
use Rattle.reply_search.proofs.search.Search.match_count.Goals as goal

pub returns-clause-count : goal.returns-clause-count
returns-clause-count c =
    c.count_all.ensures.count ∙ ap (λ re. length (find_all_str re c.args.text.now)) c.self.invariant.pattern
    ∙ kept_count c.self.inside.regex.now c.self.invariant.kept c.args.text.now (λ k. (c.type_inv.text k).fits)
    ∙ ap (λ p. length (matches_of p c.args.text.now)) c.self.view_is
