use Rattle.std.proofs.Common.{◌≡◌, ◌∙◌, ap, subst, length, map}
use Rattle.std.specs.Prelude.{IfOk, slice_get}
use Rattle.std.specs.Option.{option_map}
use Rattle.regex.specs.Strings.{regex_names, matcher_pattern}
use Rattle.regex.specs.Locations.{location_count}
use Rattle.regex.specs.Patterns.{find_all_str}
use Rattle.reply_search.specs.Found.{spans_of, matches_of}
use Rattle.reply_search.proofs.Kept.{kept_matches, row_at}
use Rattle.reply_search.proofs.search.Search.nth_match.Goals as goal

pub returns-clause-row : goal.returns-clause-row
returns-clause-row c =
    let r = c.self.inside.regex.now in
    let n = length (regex_names r) in
    let text = c.args.text.now in
    let locations = c.read_nth-whole.new.locations in
    let count : location_count locations ≡ n = c.read_nth-whole.ensures.count ∙ c.self.invariant.groups in
    subst (λ o. IfOk c.row_of.result (λ row. option_map (λ spans. spans.items) row ≡ o))
    (row_at locations n (find_all_str (matcher_pattern c.self.inside.matcher) text) c.args.place c.read_nth-whole.result count c.read_nth-whole.ensures.found
    ∙ ap (λ re. slice_get (map (spans_of n) (find_all_str re text)) c.args.place) c.self.invariant.pattern
    ∙ ap (λ rows. slice_get rows c.args.place) (kept_matches r c.self.invariant.kept text (λ k. (c.type_inv.text k).fits) ∙ ap (λ p. matches_of p text) c.self.view_is))
    c.row_of.ensures
