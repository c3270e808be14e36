use Rattle.std.proofs.Common.{◌≡◌, ℕ, refl, ap, ◌∙◌}
use Rattle.std.specs.Prelude.{slice_get}
use Rattle.regex.specs.Strings.{matcher_pattern}
use Rattle.regex.proofs.SearchLemmas.{matches_after_text}
use Rattle.reply_search.proofs.NextLaws.{nth-none, nth-here, nth-later}
use Rattle.reply_search.proofs.search.read_nth.Goals as goal

pub matches-init : goal.matches-init
matches-init c = record {
  same = refl;
  count = refl;
  left = ap (λ ms. slice_get ms c.args.place) (matches_after_text (matcher_pattern c.args.matcher.now) c.args.text.now);
}

pub returns-then-before-eq0-clause-found : goal.returns-then-before-eq0-clause-found
returns-then-before-eq0-clause-found c =
    let found = rw c.matches.invariant.same at c.in-Some.ensures.found in
    (found.0, nth-here _ _ _ found.0 c.matches.before _ found.1 c.if-before-eq0.true c.matches.invariant.left, found.2)

pub matches-preserved : goal.matches-preserved
matches-preserved c =
    let found = rw c.matches.invariant.same at c.in-Some.ensures.found in
    record {
      same = c.in-Some.ensures.same ∙ c.matches.invariant.same;
      count = c.in-Some.ensures.count ∙ c.matches.invariant.count;
      left = nth-later _ _ _ found.0 c.in-Some.whole.1 c.matches.before _ found.1 (ap (λ (s : ℕ × ℕ). s.1) found.2.0) c.if-before-eq0.false c.matches.invariant.left;
    }

pub returns-clause-found : goal.returns-clause-found
returns-clause-found c =
    let none = rw c.in_default.is at c.read_next.ensures.found in
    nth-none _ _ _ c.matches.before _ (rw c.matches.invariant.same at none) c.matches.invariant.left
