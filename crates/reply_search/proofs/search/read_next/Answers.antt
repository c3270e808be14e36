use Rattle.std.proofs.Common.{◌≡◌, ◌≤◌, ◌-◌, ℕ, Option, Some, sym, ap, ◌∙◌, subst, arith}
use Rattle.regex.specs.Strings.{matcher_pattern}
use Rattle.regex.specs.Locations.{AreLocationsOf}
use Rattle.regex.specs.Patterns.{Match, find_str, span}
use Rattle.regex.specs.Search.{Answers}
use Rattle.reply_search.proofs.NextLaws.{next-none, next-here, next-there, ends-within}
use Rattle.reply_search.proofs.search.read_next.Goals as goal

pub returns-then-after-whole-clause-found : goal.returns-then-after-whole-clause-found
returns-then-after-whole-clause-found c =
    let start : c.saturating_sub-start.result ≡ c.args.after - 1 = omega (arith, c.saturating_sub-start.ensures) in
    let found = rw start at c.in-Some.ensures.found in
    let ends : c.in-Some.whole.1 ≡ found.0.trace.end = ap (λ (s : ℕ × ℕ). s.1) found.2.0 in
    let past : c.args.after ≤ found.0.trace.end = omega (arith, ends, c.if-after-whole.true) in
    (found.0, next-here _ _ _ found.0 found.1 past, found.2)

pub returns-then-after-whole-clause-within : goal.returns-then-after-whole-clause-within
returns-then-after-whole-clause-within c =
    let start : c.saturating_sub-start.result ≡ c.args.after - 1 = omega (arith, c.saturating_sub-start.ensures) in
    let found = rw start at c.in-Some.ensures.found in
    let ends : c.in-Some.whole.1 ≡ found.0.trace.end = ap (λ (s : ℕ × ℕ). s.1) found.2.0 in
    let past : c.args.after ≤ found.0.trace.end = omega (arith, ends, c.if-after-whole.true) in
    ends-within (matcher_pattern c.args.matcher.now) c.args.text.now c.args.after (λ (s : ℕ × ℕ). s.1) (λ (m : Match) (s : ℕ × ℕ). s ≡ span m) (λ m s same. ap (λ (t : ℕ × ℕ). t.1) same) (Some c.in-Some.whole)
    (found.0, next-here _ _ _ found.0 found.1 past, found.2.0)

pub returns-else-after-whole-clause-found : goal.returns-else-after-whole-clause-found
returns-else-after-whole-clause-found c =
    let start : c.saturating_sub-start.result ≡ c.args.after - 1 = omega (arith, c.saturating_sub-start.ensures) in
    let found = rw start at c.in-Some.ensures.found in
    let ends : c.in-Some.whole.1 ≡ found.0.trace.end = ap (λ (s : ℕ × ℕ). s.1) found.2.0 in
    let next = next-there (matcher_pattern c.args.matcher.now) c.args.text.now c.args.after found.0 found.1 (omega (arith, ends, c.if-after-whole.false)) in
    subst (λ (o : Option Match). Answers c.read_from-else-after-whole.result o (λ m whole. (whole ≡ span m) × AreLocationsOf m c.read_from-else-after-whole.new.locations))
    (ap (λ re. find_str re c.args.text.now c.args.after) c.in-Some.ensures.same ∙ sym next) c.read_from-else-after-whole.ensures.found

pub returns-else-after-whole-clause-within : goal.returns-else-after-whole-clause-within
returns-else-after-whole-clause-within c =
    let start : c.saturating_sub-start.result ≡ c.args.after - 1 = omega (arith, c.saturating_sub-start.ensures) in
    let found = rw start at c.in-Some.ensures.found in
    let ends : c.in-Some.whole.1 ≡ found.0.trace.end = ap (λ (s : ℕ × ℕ). s.1) found.2.0 in
    let next = next-there (matcher_pattern c.args.matcher.now) c.args.text.now c.args.after found.0 found.1 (omega (arith, ends, c.if-after-whole.false)) in
    ends-within (matcher_pattern c.args.matcher.now) c.args.text.now c.args.after (λ (s : ℕ × ℕ). s.1)
    (λ (m : Match) (s : ℕ × ℕ). (s ≡ span m) × AreLocationsOf m c.read_from-else-after-whole.new.locations) (λ m s same. ap (λ (t : ℕ × ℕ). t.1) same.0) c.read_from-else-after-whole.result
    (subst (λ (o : Option Match). Answers c.read_from-else-after-whole.result o (λ m whole. (whole ≡ span m) × AreLocationsOf m c.read_from-else-after-whole.new.locations))
    (ap (λ re. find_str re c.args.text.now c.args.after) c.in-Some.ensures.same ∙ sym next) c.read_from-else-after-whole.ensures.found)

pub returns-in-None-clause-found : goal.returns-in-None-clause-found
returns-in-None-clause-found c =
    let start : c.saturating_sub-start.result ≡ c.args.after - 1 = omega (arith, c.saturating_sub-start.ensures) in
    next-none _ _ _ (rw start at c.in-None.ensures.found)
