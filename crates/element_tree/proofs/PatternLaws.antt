-- An assertion that was read keeps the regular expressions of exactly its patterns.
use Rattle.std.proofs.Common.{◌≡◌, ◌∙◌, ℕ, Bool, List, [], ◌∷◌, Option, Some, None, Ok, sym, ap₂}
use Rattle.serde_json.specs.Data.{Data, Members}
use Rattle.serde_json.specs.Find.{get_member, as_str, as_array}
use Rattle.std.specs.Prelude.{bytes_eq, codes, option_and_then}
use Rattle.element_props.specs.declared.choices.TestKind.{TestKind}
use Rattle.element_props.specs.declared.choices.TestKind.TheVariants.{Contains, Matches, Equals, Substring}
use Rattle.element_props.specs.declared.prop.Prop.TheVariants as props
use Rattle.element_props.specs.ChoiceTexts.{test_word}
use Rattle.element_props.specs.FormRows.{Row, test_patterns, required}
use Rattle.element_props.specs.Forms.{few_of, is_test, is_too_long}
use Rattle.element_props.specs.NamedProps.{NamedValue}
use Rattle.element_props.specs.Props.{own_properties}
use Rattle.element_props.specs.Reads.{outcome}
use Rattle.element_props.proofs.FormsAgain.{and_then_some, unless_some}
use Rattle.element_props.proofs.RowsAgain.{parts, word_of}
use Rattle.element_props.proofs.TakenLaws.{any_reference, formed, taken_from, tests_taken, value_from, value_here, values}
use Rattle.element_tree.specs.declared.kinds.Assertion.{Assertion}
use Rattle.element_tree.specs.declared.kinds.Assertion.TheVariants.{Response, Duration, Size}
use Rattle.element_tree.specs.declared.kinds.Kind.{Kind}
use Rattle.element_tree.specs.declared.kinds.Kind.TheVariants as kinds
use Rattle.element_tree.specs.Fits.{FitsAll}
use Rattle.element_tree.specs.KeptPatterns.{AreOfPatterns, KeepsPatterns, HasPatterns}
use Rattle.element_tree.specs.Table.{rows}
use Rattle.element_tree.specs.declared.types.ElementType.TheVariants as types
use Rattle.element_tree.specs.Types.{type_of}
use Rattle.element_tree.specs.Values.{values_of}

-- whether a word is that of this kind of test
abbrev is_for : TestKind → TestKind → Bool
is_for test kind = bytes_eq (test_word test) (test_word kind)

-- what texts are read as, for each kind of test
by_test : (test : TestKind) (texts patterns regexes whole_regexes : List (List ℕ)) → tests_taken (is_for test Contains) (is_for test Matches) texts ≡ Some (props.Patterns patterns regexes whole_regexes)
    → AreOfPatterns test patterns regexes whole_regexes
by_test Contains texts patterns regexes whole_regexes h = let made = (unless_some (any_reference texts) _ (props.Patterns patterns regexes whole_regexes) h).1 in (cc, cc)
by_test Matches texts patterns regexes whole_regexes h = let made = (unless_some (any_reference texts) _ (props.Patterns patterns regexes whole_regexes) h).1 in (cc, cc)
by_test Equals texts patterns regexes whole_regexes h = (cc, cc)
by_test Substring texts patterns regexes whole_regexes h = (cc, cc)

-- the property `patterns`, where the property `test` is the word of this kind
of_value : (test : TestKind) (ms : Members) (o : Option Data) (patterns regexes whole_regexes : List (List ℕ)) → ((kind : TestKind) → is_test kind ms ≡ is_for test kind)
    → value_from test_patterns required ms o ≡ Some (props.Patterns patterns regexes whole_regexes) → AreOfPatterns test patterns regexes whole_regexes
of_value test ms None patterns regexes whole_regexes is h = cc
of_value test ms (Some d) patterns regexes whole_regexes is h =
    let all = props.Patterns patterns regexes whole_regexes in
    let t = unless_some (is_too_long test_patterns d) (formed test_patterns ms d) all h in
    let a = and_then_some (tests_taken (is_test Contains ms) (is_test Matches ms)) (option_and_then (few_of 64 as_str) (as_array d)) all t.1 in
    by_test test a.0 patterns regexes whole_regexes (ap₂ (λ (c m : Bool). tests_taken c m a.0) (sym (is Contains)) (sym (is Matches)) ∙ a.2)

-- each of these values was read where its row says
abbrev AreHere : Members → List Row → List NamedValue → Type 0
AreHere ms [] ps = Unit {0}
AreHere ms (row ∷ rows) [] = Unit {0}
AreHere ms (row ∷ rows) (p ∷ ps) = (value_here ms row ≡ Some p.value) × AreHere ms rows ps

are_here : (ms : Members) (rows : List Row) (ps : List NamedValue) → values ms rows ≡ Some ps → AreHere ms rows ps
are_here ms [] ps h = tt
are_here ms (row ∷ rows) [] h = tt
are_here ms (row ∷ rows) (p ∷ ps) h = let first = parts ms row rows p ps h in (first.here, are_here ms rows ps first.later)

-- the properties of a Response Assertion
of_values : (version : ℕ) (ms : Members) (assertion : Assertion) → FitsAll (rows version types.ResponseAssertion) (values_of (kinds.ResponseAssertion assertion))
    → values ms (rows version types.ResponseAssertion) ≡ Some (values_of (kinds.ResponseAssertion assertion)) → KeepsPatterns assertion
of_values version ms (Response field ignore_status negate either patterns regexes test whole_regexes) fits h =
    let here = are_here ms (rows version types.ResponseAssertion) (values_of (kinds.ResponseAssertion (Response field ignore_status negate either patterns regexes test whole_regexes))) h in
    let last = here.1.1.1.1 in
    of_value test ms (get_member (codes "patterns") ms) patterns regexes whole_regexes (λ kind. word_of kind ms (get_member (codes "test") ms) (props.Word (test_word test)) last.1.0) last.0
of_values version ms assertion fits h = absurd fits

pub has_patterns : (version : ℕ) (places : List ℕ) (ms : Members) (kind : Kind) → FitsAll (rows version (type_of kind)) (values_of kind)
    → outcome (own_properties places ms (rows version (type_of kind))) ≡ Ok (values_of kind) → HasPatterns kind
has_patterns version places ms (kinds.ResponseAssertion assertion) fits h =
    of_values version ms assertion fits (taken_from places ms (rows version types.ResponseAssertion) (values_of (kinds.ResponseAssertion assertion)) h).read
has_patterns version places ms (kinds.DurationAssertion (Duration milliseconds)) fits h = tt
has_patterns version places ms (kinds.DurationAssertion assertion) fits h = absurd fits
has_patterns version places ms (kinds.SizeAssertion (Size op size)) fits h = tt
has_patterns version places ms (kinds.SizeAssertion assertion) fits h = absurd fits
has_patterns version places ms kind fits h = tt
