use Rattle.std.proofs.Common.{◌≡◌, true, length, refl, ap, ◌∙◌, arith}
use Rattle.regex.specs.Strings.{matcher_pattern}
use Rattle.regex.specs.Patterns.{find_all_str}
use Rattle.regex.specs.Search.{matches_after}
use Rattle.regex.proofs.SearchLemmas.{matches_after_text}
use Rattle.reply_search.proofs.NextLaws.{counted-all, counted-more}
use Rattle.reply_search.proofs.search.count_all.Goals as goal

pub matches-init : goal.matches-init
matches-init c =
    let all : length (matches_after true (matcher_pattern c.args.matcher.now) c.args.text.now 0) ≡ length (find_all_str (matcher_pattern c.args.matcher.now) c.args.text.now) = ap length (matches_after_text (matcher_pattern c.args.matcher.now) c.args.text.now) in
    record { same = refl; few = omega arith; within = omega arith; counted = omega (arith, all) }

pub matches-preserved : goal.matches-preserved
matches-preserved c =
    let found = rw c.matches.invariant.same at c.in-Some.ensures.found in
    record {
      same = c.in-Some.ensures.same ∙ c.matches.invariant.same;
      few = omega (arith, c.in-Some.ensures.within, c.matches.invariant.few);
      within = omega (arith, c.in-Some.ensures.within);
      counted = counted-more _ _ _ found.0 c.in-Some.end c.matches.count _ found.1 found.2 c.matches.invariant.counted;
    }

pub returns-clause-count : goal.returns-clause-count
returns-clause-count c =
    let none = rw c.in_default.is at c.next_end.ensures.found in
    counted-all _ _ _ c.matches.count _ (rw c.matches.invariant.same at none) c.matches.invariant.counted
