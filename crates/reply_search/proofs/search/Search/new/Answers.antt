use Rattle.std.proofs.Common.{sym, ◌∙◌}
use Rattle.reply_search.proofs.search.Search.new.Goals as goal

pub invariant_of-result : goal.invariant_of-result
invariant_of-result c = record {
  kept = c.regex-regex.ensures.1;
  pattern = c.in_ok-matcher.ensures.pattern;
  groups = c.in_ok-locations.ensures.value ∙ sym c.captures_len-groups.ensures.count ∙ c.captures_len-groups.ensures.names;
}
