-- What holds of the regular expressions that are kept holds by the patterns.
use Rattle.std.proofs.Common.{◌≡◌, ℕ, Bool, true, false, List, [], ◌∷◌, refl, ap, ◌∙◌, map, IfOk}
use Rattle.std.specs.Prelude.{◌||◌, ◌&&◌, Result, Ok, Err}
use Rattle.jm_base.specs.declared.errors.NoMemory.{NoMemory}
use Rattle.std.specs.List.{list_any, list_all}
use Rattle.element_props.specs.Forms.{around}
use Rattle.element_props.specs.declared.choices.TestKind.TheVariants.{Contains, Matches, Equals, Substring}
use Rattle.element_tree.specs.KeptPatterns.{KeepsPatterns}
use Rattle.element_tree.specs.declared.kinds.Assertion.{Assertion}
use Rattle.element_tree.specs.declared.kinds.Assertion.TheVariants.{Response, Duration, Size}
use Rattle.reply_search.specs.Found.{is_found}
use Rattle.reply_search.specs.Seen.{text_in, field_of}
use Rattle.assertions.specs.Judging.{turned, together, meets, holds}
use Rattle.assertions.specs.ByPatterns.{holds_by_patterns}
use Rattle.assertions.specs.declared.judging.Answer.{Answer}

any_of_map : (test : List ℕ → Bool) (f : List ℕ → List ℕ) (xs : List (List ℕ)) → list_any test (map f xs) ≡ list_any (λ x. test (f x)) xs
any_of_map test f [] = refl
any_of_map test f (x ∷ xs) = ap (λ b. test (f x) || b) (any_of_map test f xs)

all_of_map : (test : List ℕ → Bool) (f : List ℕ → List ℕ) (xs : List (List ℕ)) → list_all test (map f xs) ≡ list_all (λ x. test (f x)) xs
all_of_map test f [] = refl
all_of_map test f (x ∷ xs) = ap (λ b. test (f x) && b) (all_of_map test f xs)

together_of_map : (either : Bool) (test : List ℕ → Bool) (f : List ℕ → List ℕ) (xs : List (List ℕ)) → together either test (map f xs) ≡ together either (λ x. test (f x)) xs
together_of_map true test f xs = any_of_map test f xs
together_of_map false test f xs = all_of_map test f xs

-- the regular expressions of the whole texts, one for each pattern
wholes_hold : (either negate : Bool) (text : List ℕ) (patterns wholes : List (List ℕ)) → wholes ≡ map around patterns
    → together either (λ tried. turned negate (is_found tried text)) wholes ≡ together either (λ pattern. turned negate (is_found (around pattern) text)) patterns
wholes_hold either negate text patterns wholes kept =
    ap (together either (λ tried. turned negate (is_found tried text))) kept ∙ together_of_map either (λ tried. turned negate (is_found tried text)) around patterns

pub kept_holds : (assertion : Assertion) (answer : Answer) → KeepsPatterns assertion → holds assertion answer ≡ holds_by_patterns assertion answer
kept_holds (Response field ignore_status negate either patterns regexes Contains whole_regexes) answer kept =
    ap (together either (λ tried. turned negate (meets Contains (text_in (field_of field answer.reply)) tried))) kept.0
kept_holds (Response field ignore_status negate either patterns regexes Matches whole_regexes) answer kept =
    wholes_hold either negate (text_in (field_of field answer.reply)) patterns whole_regexes kept.1
kept_holds (Response field ignore_status negate either patterns regexes Equals whole_regexes) answer kept = refl
kept_holds (Response field ignore_status negate either patterns regexes Substring whole_regexes) answer kept = refl
kept_holds (Duration ms) answer kept = refl
kept_holds (Size op size) answer kept = refl

-- the same of what a call answered
pub answered_by_patterns : (assertion : Assertion) (answer : Answer) (result : Result Bool NoMemory) → IfOk result (λ held. held ≡ holds assertion answer)
    → KeepsPatterns assertion → IfOk result (λ held. held ≡ holds_by_patterns assertion answer)
answered_by_patterns assertion answer (Ok held) truth kept = truth ∙ kept_holds assertion answer kept
answered_by_patterns assertion answer (Err e) truth kept = tt
