use Rattle.std.proofs.Common.{rules, ◌≡◌, IfOk}
use Rattle.assertions.specs.Judging.{holds}
use Rattle.assertions.proofs.ByPatternsLaws.{answered_by_patterns}
use Rattle.assertions.proofs.judging.check_with.Goals as goal

pub returns-in-Matches-clause-patterns : goal.returns-in-Matches-clause-patterns
returns-in-Matches-clause-patterns c =
    let truth : IfOk c.found_together-in-Matches.result (λ held. held ≡ holds c.args.assertion.now c.args.answer.now) = search rules in
    answered_by_patterns c.args.assertion.now c.args.answer.now c.found_together-in-Matches.result truth
