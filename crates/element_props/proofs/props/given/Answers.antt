use Rattle.std.proofs.Common.{sym, ◌∙◌}
use Rattle.element_props.proofs.ReadsLaws.{given_long, given_no_text, given_pattern, given_tests, given_none, given_value}
use Rattle.element_props.proofs.props.given.Goals as goal

pub returns-then-is_too_long : goal.returns-then-is_too_long
returns-then-is_too_long g c = rw (c.in_ok-prop_path.ensures) (given_long _ _ _ _ _ (sym c.is_too_long.ensures.exact ∙ c.if-is_too_long.true))

pub returns-in_default : goal.returns-in_default
returns-in_default g c = rw (c.in_ok-prop_path-2.ensures) (given_no_text _ _ _ _ _ (sym c.is_too_long.ensures.exact ∙ c.if-is_too_long.false) (sym c.is_pattern.ensures ∙ c.if-is_pattern.true) (sym c.in_default.ensures))

pub returns-in_default-2 : goal.returns-in_default-2
returns-in_default-2 g c = rw (c.in_ok-prop_path-3.ensures) (given_none _ _ _ _ _ (sym c.is_too_long.ensures.exact ∙ c.if-is_too_long.false) (sym c.is_pattern.ensures ∙ c.if-is_pattern.false) (sym c.is_test_patterns.ensures ∙ c.if-is_test_patterns.false) (sym c.in_ok-prop.ensures.value ∙ c.in_default-2.is))

pub returns : goal.returns
returns g c = given_value _ _ _ _ _ c.in-Some-2.prop _ (sym c.is_too_long.ensures.exact ∙ c.if-is_too_long.false) (sym c.is_pattern.ensures ∙ c.if-is_pattern.false) (sym c.is_test_patterns.ensures ∙ c.if-is_test_patterns.false) (sym c.in_ok-prop.ensures.value ∙ c.in-Some-2.is) c.finished.ensures

pub returns-then-is_pattern : goal.returns-then-is_pattern
returns-then-is_pattern g c = given_pattern _ _ _ _ _ _ c.in-Some.text.now _ (sym c.is_too_long.ensures.exact ∙ c.if-is_too_long.false) (sym c.is_pattern.ensures ∙ c.if-is_pattern.true) (sym c.in-Some.ensures) c.pattern_prop.ensures

pub returns-then-is_test_patterns : goal.returns-then-is_test_patterns
returns-then-is_test_patterns g c = given_tests _ _ _ _ _ _ _ (sym c.is_too_long.ensures.exact ∙ c.if-is_too_long.false) (sym c.is_pattern.ensures ∙ c.if-is_pattern.false) (sym c.is_test_patterns.ensures ∙ c.if-is_test_patterns.true) c.tests_given.ensures
