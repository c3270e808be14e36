use Rattle.std.proofs.Common.{◌≡◌, ◌≤◌, ◌-◌, ℕ, Option, Some, sym, ap, ◌∙◌, subst, arith}
use Rattle.regex.specs.Strings.{matcher_pattern}
use Rattle.regex.specs.Patterns.{Match, find_str}
use Rattle.regex.specs.Search.{Answers}
use Rattle.reply_search.proofs.NextLaws.{next-none, next-here, next-there, ends-within}
use Rattle.reply_search.proofs.search.next_end.Goals as goal

pub returns-then-after-end-clause-found : goal.returns-then-after-end-clause-found
returns-then-after-end-clause-found c =
    let start : c.saturating_sub-start.result ≡ c.args.after - 1 = omega (arith, c.saturating_sub-start.ensures) in
    let found = rw start at c.in-Some.ensures.found in
    let past : c.args.after ≤ found.0.trace.end = omega (arith, found.2, c.if-after-end.true) in
    (found.0, next-here _ _ _ found.0 found.1 past, found.2)

pub returns-then-after-end-clause-within : goal.returns-then-after-end-clause-within
returns-then-after-end-clause-within c =
    let start : c.saturating_sub-start.result ≡ c.args.after - 1 = omega (arith, c.saturating_sub-start.ensures) in
    let found = rw start at c.in-Some.ensures.found in
    let past : c.args.after ≤ found.0.trace.end = omega (arith, found.2, c.if-after-end.true) in
    ends-within (matcher_pattern c.args.matcher.now) c.args.text.now c.args.after (λ (e : ℕ). e) (λ (m : Match) (e : ℕ). e ≡ m.trace.end) (λ m e same. same) (Some c.in-Some.end)
    (found.0, next-here _ _ _ found.0 found.1 past, found.2)

pub returns-else-after-end-clause-found : goal.returns-else-after-end-clause-found
returns-else-after-end-clause-found c =
    let start : c.saturating_sub-start.result ≡ c.args.after - 1 = omega (arith, c.saturating_sub-start.ensures) in
    let found = rw start at c.in-Some.ensures.found in
    let next = next-there (matcher_pattern c.args.matcher.now) c.args.text.now c.args.after found.0 found.1 (omega (arith, found.2, c.if-after-end.false)) in
    subst (λ (o : Option Match). Answers c.end_from-else-after-end.result o (λ m end. end ≡ m.trace.end))
    (ap (λ re. find_str re c.args.text.now c.args.after) c.in-Some.ensures.same ∙ sym next) c.end_from-else-after-end.ensures.found

pub returns-else-after-end-clause-within : goal.returns-else-after-end-clause-within
returns-else-after-end-clause-within c =
    let start : c.saturating_sub-start.result ≡ c.args.after - 1 = omega (arith, c.saturating_sub-start.ensures) in
    let found = rw start at c.in-Some.ensures.found in
    let next = next-there (matcher_pattern c.args.matcher.now) c.args.text.now c.args.after found.0 found.1 (omega (arith, found.2, c.if-after-end.false)) in
    ends-within (matcher_pattern c.args.matcher.now) c.args.text.now c.args.after (λ (e : ℕ). e) (λ (m : Match) (e : ℕ). e ≡ m.trace.end) (λ m e same. same) c.end_from-else-after-end.result
    (subst (λ (o : Option Match). Answers c.end_from-else-after-end.result o (λ m end. end ≡ m.trace.end))
    (ap (λ re. find_str re c.args.text.now c.args.after) c.in-Some.ensures.same ∙ sym next) c.end_from-else-after-end.ensures.found)

pub returns-in-None-clause-found : goal.returns-in-None-clause-found
returns-in-None-clause-found c =
    let start : c.saturating_sub-start.result ≡ c.args.after - 1 = omega (arith, c.saturating_sub-start.ensures) in
    next-none _ _ _ (rw start at c.in-None.ensures.found)
