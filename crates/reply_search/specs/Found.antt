-- Where a regular expression and a plain text are found in a text.
use Rattle.std.specs.Prelude.{ℕ, true, ◌-◌, List, [], ◌∷◌, Option, Some, map, length, option_and_then, Bool, is_some}
use Rattle.std.specs.List.{range_with_len}
use Rattle.std.specs.Option.{option_map_or}
use Rattle.regex.specs.Patterns.{Match, span, find_str, find_all_str}
use Rattle.regex.specs.Search.{matches_after}
use Rattle.regex.specs.Writes.{group_of}
use Rattle.memchr.specs.Find.{matches, first_of}
use Rattle.element_props.specs.Patterns.{reading_of}

-- what the groups of a match span, where there are that many with the whole match, which comes first; a group that took no
-- part spans nothing
abbrev pub spans_of : ℕ → Match → List (Option (ℕ × ℕ))
spans_of count m = Some (span m) ∷ map (group_of m) (range_with_len 1 (count - 1))

-- all matches of a pattern in a text, from left to right, by what their groups span
abbrev pub matches_of : List ℕ → List ℕ → List (List (Option (ℕ × ℕ)))
matches_of pattern text = option_map_or (λ p. map (spans_of (length p.1)) (find_all_str p.0 text)) (reading_of pattern) []

-- those that are left, where `after` is one more than the end of the last match, or 0 before the first
abbrev pub matches_left : List ℕ → List ℕ → ℕ → List (List (Option (ℕ × ℕ)))
matches_left pattern text after = option_map_or (λ p. map (spans_of (length p.1)) (matches_after true p.0 text after)) (reading_of pattern) []

-- how many groups a pattern has beside the whole match
abbrev pub groups_of : List ℕ → ℕ
groups_of pattern = option_map_or (λ p. length p.1 - 1) (reading_of pattern) 0

-- whether a pattern is found in a text
abbrev pub is_found : List ℕ → List ℕ → Bool
is_found pattern text = is_some (option_and_then (λ p. find_str p.0 text 0) (reading_of pattern))

-- the first place at which a plain text stands in another
abbrev pub place_in : List ℕ → List ℕ → Option ℕ
place_in part text = first_of (matches text part 0)
