-- What an assertion says of what a sampler was answered.
use Rattle.std.specs.Prelude.{ℕ, Bool, true, false, not, nat_le, nat_lt, nat_eq, List, length, is_some, if◌then◌else◌}
use Rattle.std.specs.List.{list_any, list_all}
use Rattle.jm_base.specs.Outside.{same_bytes}
use Rattle.element_props.specs.declared.choices.TestKind.{TestKind}
use Rattle.element_props.specs.declared.choices.TestKind.TheVariants.{Contains, Matches, Equals, Substring}
use Rattle.element_props.specs.declared.choices.Comparison.{Comparison}
use Rattle.element_props.specs.declared.choices.Comparison.TheVariants.{Equal, NotEqual, Above, Below, AtLeast, AtMost}
use Rattle.element_tree.specs.declared.kinds.Assertion.{Assertion}
use Rattle.element_tree.specs.declared.kinds.Assertion.TheVariants.{Response, Duration, Size}
use Rattle.reply_search.specs.Found.{is_found, place_in}
use Rattle.reply_search.specs.Seen.{text_in, field_of}
use Rattle.assertions.specs.declared.judging.Answer.{Answer}

-- what is tried: for `contains` and `matches` the regular expressions that a plan keeps for the patterns
abbrev pub tried_by : TestKind → List (List ℕ) → List (List ℕ) → List (List ℕ) → List (List ℕ)
tried_by Contains patterns regexes whole_regexes = regexes
tried_by Matches patterns regexes whole_regexes = whole_regexes
tried_by Equals patterns regexes whole_regexes = patterns
tried_by Substring patterns regexes whole_regexes = patterns

-- whether a text meets what is tried
abbrev pub meets : TestKind → List ℕ → List ℕ → Bool
meets Contains text tried = is_found tried text
meets Matches text tried = is_found tried text
meets Equals text tried = same_bytes text tried
meets Substring text tried = is_some (place_in tried text)

-- `not` turns each answer
abbrev pub turned : Bool → Bool → Bool
turned negate met = if negate then not met else met

-- all have to hold, or with `or` one
abbrev pub together : Bool → (List ℕ → Bool) → List (List ℕ) → Bool
together either holds patterns = if either then list_any holds patterns else list_all holds patterns

-- how a length compares with a size
abbrev pub compares : Comparison → ℕ → ℕ → Bool
compares Equal a b = nat_eq a b
compares NotEqual a b = not (nat_eq a b)
compares Above a b = nat_lt b a
compares Below a b = nat_lt a b
compares AtLeast a b = nat_le b a
compares AtMost a b = nat_le a b

-- whether an assertion holds of an answer
abbrev pub holds : Assertion → Answer → Bool
holds (Response field ignore_status negate either patterns regexes test whole_regexes) answer =
    together either (λ tried. turned negate (meets test (text_in (field_of field answer.reply)) tried)) (tried_by test patterns regexes whole_regexes)
holds (Duration ms) answer = nat_le answer.elapsed ms
holds (Size op size) answer = compares op (length answer.reply.body) size

-- whether regular expressions are tried
abbrev pub tries_regexes : TestKind → Bool
tries_regexes Contains = true
tries_regexes Matches = true
tries_regexes Equals = false
tries_regexes Substring = false

-- regular expressions alone take memory
abbrev pub takes_memory : Assertion → Bool
takes_memory (Response field ignore_status negate either patterns regexes test whole_regexes) = tries_regexes test
takes_memory (Duration ms) = false
takes_memory (Size op size) = false
