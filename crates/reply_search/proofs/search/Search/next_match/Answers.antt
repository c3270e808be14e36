use Rattle.std.proofs.Common.{◌≡◌, ◌∙◌, ap, subst, length, map, true, ℕ}
use Rattle.regex.specs.Strings.{regex_names, matcher_pattern}
use Rattle.regex.specs.Locations.{location_count}
use Rattle.regex.specs.Search.{matches_after}
use Rattle.reply_search.specs.Found.{spans_of, matches_left}
use Rattle.reply_search.proofs.Kept.{kept_left, next_row, if_ok}
use Rattle.reply_search.proofs.search.Search.next_match.Goals as goal

pub returns-clause-next : goal.returns-clause-next
returns-clause-next c =
    let r = c.self.inside.regex.now in
    let n = length (regex_names r) in
    let text = c.args.text.now in
    let locations = c.read_next-whole.new.locations in
    let count : location_count locations ≡ n = c.read_next-whole.ensures.count ∙ c.self.invariant.groups in
    if_ok c.next_of.result _ _
    (next_row locations n (matcher_pattern c.self.inside.matcher) text c.args.after (matches_left c.args.self.now text) c.read_next-whole.result count
    (λ (k : ℕ). ap (λ re. map (spans_of n) (matches_after true re text k)) c.self.invariant.pattern
    ∙ kept_left r c.self.invariant.kept text (λ j. (c.type_inv.text j).fits) k ∙ ap (λ p. matches_left p text k) c.self.view_is)
    c.read_next-whole.ensures.found)
    c.next_of.ensures
