-- An assertion of a plan keeps the regular expressions of exactly its patterns.
use Rattle.std.specs.Prelude.{◌≡◌, ℕ, List, [], map}
use Rattle.element_props.specs.Forms.{around}
use Rattle.element_props.specs.declared.choices.TestKind.{TestKind}
use Rattle.element_props.specs.declared.choices.TestKind.TheVariants.{Contains, Matches}
use Rattle.element_tree.specs.declared.kinds.Assertion.{Assertion}
use Rattle.element_tree.specs.declared.kinds.Assertion.TheVariants.{Response}
use Rattle.element_tree.specs.declared.kinds.Kind.{Kind}
use Rattle.element_tree.specs.declared.kinds.Kind.TheVariants.{ResponseAssertion, DurationAssertion, SizeAssertion}

-- What is kept of these patterns: with `contains` and `matches` the regular expression of each, with `matches` that of
-- the text `\A(?:` pattern `)\z` too, and none where a text is compared.
abbrev pub AreOfPatterns : TestKind → List (List ℕ) → List (List ℕ) → List (List ℕ) → Type 0
AreOfPatterns Contains patterns regexes whole_regexes = (regexes ≡ patterns) × (whole_regexes ≡ [])
AreOfPatterns Matches patterns regexes whole_regexes = (regexes ≡ patterns) × (whole_regexes ≡ map around patterns)
AreOfPatterns test patterns regexes whole_regexes = (regexes ≡ []) × (whole_regexes ≡ [])

abbrev pub KeepsPatterns : Assertion → Type 0
KeepsPatterns (Response field ignore_status negate either patterns regexes test whole_regexes) = AreOfPatterns test patterns regexes whole_regexes
KeepsPatterns assertion = Unit {0}

-- the same of an element that is an assertion
abbrev pub HasPatterns : Kind → Type 0
HasPatterns (ResponseAssertion assertion) = KeepsPatterns assertion
HasPatterns (DurationAssertion assertion) = KeepsPatterns assertion
HasPatterns (SizeAssertion assertion) = KeepsPatterns assertion
HasPatterns kind = Unit {0}
