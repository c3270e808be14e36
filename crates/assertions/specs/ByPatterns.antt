-- What a Response Assertion says by its patterns' texts alone.
use Rattle.std.specs.Prelude.{ℕ, Bool, List, is_some}
use Rattle.jm_base.specs.Outside.{same_bytes}
use Rattle.element_props.specs.Forms.{around}
use Rattle.element_props.specs.declared.choices.TestKind.{TestKind}
use Rattle.element_props.specs.declared.choices.TestKind.TheVariants.{Contains, Matches, Equals, Substring}
use Rattle.element_tree.specs.declared.kinds.Assertion.{Assertion}
use Rattle.element_tree.specs.declared.kinds.Assertion.TheVariants.{Response, Duration, Size}
use Rattle.reply_search.specs.Found.{is_found, place_in}
use Rattle.reply_search.specs.Seen.{text_in, field_of}
use Rattle.assertions.specs.Judging.{turned, together, holds}
use Rattle.assertions.specs.declared.judging.Answer.{Answer}

-- whether a text meets a pattern: it is found in the text, matches the whole text, is the same bytes, or stands in the text
abbrev pub meets_pattern : TestKind → List ℕ → List ℕ → Bool
meets_pattern Contains text pattern = is_found pattern text
meets_pattern Matches text pattern = is_found (around pattern) text
meets_pattern Equals text pattern = same_bytes text pattern
meets_pattern Substring text pattern = is_some (place_in pattern text)

-- whether an assertion holds of an answer, by its patterns
abbrev pub holds_by_patterns : Assertion → Answer → Bool
holds_by_patterns (Response field ignore_status negate either patterns regexes test whole_regexes) answer =
    together either (λ pattern. turned negate (meets_pattern test (text_in (field_of field answer.reply)) pattern)) patterns
holds_by_patterns (Duration ms) answer = holds (Duration ms) answer
holds_by_patterns (Size op size) answer = holds (Size op size) answer
