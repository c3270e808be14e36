use Rattle.std.proofs.Common.{◌∙◌, ap}
use Rattle.reply_search.specs.Found.{is_found}
use Rattle.reply_search.proofs.Kept.{kept_found}
use Rattle.reply_search.proofs.search.Search.finds.Goals as goal

pub returns-clause-found : goal.returns-clause-found
returns-clause-found c =
    rw (c.is_match.ensures.found, c.self.invariant.pattern)
    (kept_found c.self.inside.regex.now c.self.invariant.kept c.args.text.now (λ k. (c.type_inv.text k).fits) ∙ ap (λ p. is_found p c.args.text.now) c.self.view_is)
