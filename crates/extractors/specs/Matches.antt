-- The matches of the three extractors in a text, and what these make of the variables.
use Rattle.std.specs.Prelude.{ℕ, zero, suc, ◌+◌, ◌-◌, List, [], ◌∷◌, length, map, take, drop, Option, Some, None, unwrap_or, Result, Ok, Err, ◌&&◌, nat_le, if◌then◌else◌}
use Rattle.std.specs.Option.{option_map}
use Rattle.serde_json.specs.Data.{Data}
use Rattle.serde_json.specs.Read.{read}
use Rattle.json_path.specs.declared.path.Step.{Step}
use Rattle.json_path.specs.PathMachine.{path_of}
use Rattle.json_path.specs.Selection.{selected}
use Rattle.element_tree.specs.declared.kinds.RegexExtractor.{RegexExtractor}
use Rattle.element_tree.specs.declared.kinds.JsonExtractor.{JsonExtractor}
use Rattle.element_tree.specs.declared.kinds.BoundaryExtractor.{BoundaryExtractor}
use Rattle.thread_vars.specs.Vars.{Variables}
use Rattle.var_changes.specs.Changes.{Change}
use Rattle.reply_search.specs.Found.{matches_of, groups_of, place_in}
use Rattle.reply_search.specs.Seen.{text_in}
use Rattle.extractors.specs.Extraction.{Match, which_of, extracted}
use Rattle.extractors.specs.Templates.{filled}

-- ---- regular expressions

-- the text of a span; of none it is empty
abbrev pub text_at : List ℕ → Option (ℕ × ℕ) → List ℕ
text_at text None = []
text_at text (Some span) = if nat_le span.0 span.1 && nat_le span.1 (length text) then take (span.1 - span.0) (drop span.0 text) else []

-- a match by what its groups span
abbrev pub match_by : List ℕ → List ℕ → List (Option (ℕ × ℕ)) → Match
match_by template text spans = record { value = filled template (map (text_at text) spans); groups = map (text_at text) spans }

abbrev pub pattern_matches : List ℕ → List ℕ → List ℕ → List Match
pattern_matches pattern template text = map (match_by template text) (matches_of pattern text)

abbrev pub extracted_regex : RegexExtractor → List ℕ → ℕ → Variables → List Change
extracted_regex x text pick =
    extracted x.ref_ (which_of x.match_) x.default (Some (groups_of x.pattern)) (pattern_matches x.pattern x.template (text_in text)) pick

-- ---- JSON

-- a match that has no groups
abbrev pub plain : List ℕ → Match
plain text = record { value = text; groups = [] }

-- the texts that a path selects; none where it can't be read
abbrev pub selected_by : Result (List Step) ℕ → Data → List (List ℕ)
selected_by (Ok steps) value = selected steps value
selected_by (Err at) value = []

-- in a text that is no JSON there are none
abbrev pub json_texts : List ℕ → List ℕ → List (List ℕ)
json_texts path text = unwrap_or (option_map (selected_by (path_of path)) (read text)) []

abbrev pub extracted_json : JsonExtractor → List ℕ → ℕ → Variables → List Change
extracted_json x text pick = extracted x.ref_ (which_of x.match_) x.default None (map plain (json_texts x.path (text_in text))) pick

-- ---- boundaries

-- what stands before a part where it stands first in a text, and what after it
abbrev pub cut_at : List ℕ → List ℕ → Option (List ℕ × List ℕ)
cut_at part text = option_map (λ at. (take at text, drop (at + length part) text)) (place_in part text)

-- the text before the right boundary, and what comes after it
abbrev pub up_to_right : (List ℕ → List (List ℕ)) → Option (List ℕ × List ℕ) → List (List ℕ)
up_to_right more None = []
up_to_right more (Some cut) = cut.0 ∷ more cut.1

-- after the left one
abbrev pub after_left : List ℕ → (List ℕ → List (List ℕ)) → Option (List ℕ × List ℕ) → List (List ℕ)
after_left right more None = []
after_left right more (Some cut) = up_to_right more (cut_at right cut.1)

-- The texts between a left and a right boundary, that many at most: up to the first right one after the first left one, and
-- so on after that.
unfoldable pub between : ℕ → List ℕ → List ℕ → List ℕ → List (List ℕ)
between zero left right text = []
between (suc n) left right text = after_left right (between n left right) (cut_at left text)

-- each takes a byte at least
abbrev pub bounded_texts : List ℕ → List ℕ → List ℕ → List (List ℕ)
bounded_texts left right text = between (length text) left right text

abbrev pub extracted_bounds : BoundaryExtractor → List ℕ → ℕ → Variables → List Change
extracted_bounds x text pick = extracted x.ref_ (which_of x.match_) x.default None (map plain (bounded_texts x.left x.right (text_in text))) pick
