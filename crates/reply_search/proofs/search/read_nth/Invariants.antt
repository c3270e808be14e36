use Rattle.std.proofs.Common.{◌≡◌, ◌+◌, ◌-◌, true, length}
use Rattle.std.specs.Prelude.{slice_get}
use Rattle.regex.specs.Strings.{matcher_pattern}
use Rattle.regex.specs.Locations.{location_count}
use Rattle.regex.specs.Patterns.{find_all_str}
use Rattle.regex.specs.Search.{matches_after}
use Rattle.reply_search.proofs.search.read_nth.Given as goal

abbrev pub invariant-matches : goal.invariant-matches
invariant-matches l = record {
  same : matcher_pattern l.matcher ≡ matcher_pattern l.fn.matcher;
  count : location_count l.locations ≡ location_count l.fn.locations;
  left : slice_get (matches_after true (matcher_pattern l.fn.matcher) l.fn.text l.after) l.before ≡ slice_get (find_all_str (matcher_pattern l.fn.matcher) l.fn.text) l.fn.place;
}

abbrev pub decreases-matches : goal.decreases-matches
decreases-matches l = length l.fn.text + 1 - l.after
