use Rattle.std.proofs.Common.{ℕ, ◌∙◌, ap₂}
use Rattle.reply_search.proofs.search.read_from.Goals as goal

pub returns-in-Some-clause-found : goal.returns-in-Some-clause-found
returns-in-Some-clause-found c =
    let found = c.in-Some.ensures.found in
    (found.0, found.1, (ap₂ (λ (a b : ℕ). (a, b)) c.start.ensures c.end.ensures ∙ found.2.0, found.2.1))
