use Rattle.std.proofs.Common.{◌≡◌, ◌+◌, ◌-◌, ◌≤◌, true, length}
use Rattle.regex.specs.Strings.{matcher_pattern}
use Rattle.regex.specs.Patterns.{find_all_str}
use Rattle.regex.specs.Search.{matches_after}
use Rattle.reply_search.proofs.search.count_all.Given as goal

abbrev pub invariant-matches : goal.invariant-matches
invariant-matches l = record {
  same : matcher_pattern l.matcher ≡ matcher_pattern l.fn.matcher;
  few : l.count ≤ l.after;
  within : l.after ≤ length l.fn.text + 1;
  counted : l.count + length (matches_after true (matcher_pattern l.fn.matcher) l.fn.text l.after) ≡ length (find_all_str (matcher_pattern l.fn.matcher) l.fn.text);
}

abbrev pub decreases-matches : goal.decreases-matches
decreases-matches l = length l.fn.text + 1 - l.after
