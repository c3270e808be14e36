use Rattle.std.proofs.Common.{sym, ◌∙◌}
use Rattle.element_props.proofs.ReadsLaws.{tests_regex, tests_plain}
use Rattle.element_props.proofs.asking.tests_prop.Goals as goal

pub returns-then-either : goal.returns-then-either
returns-then-either g c = tests_regex (λ p. p) _ _ _ _ _ _ _ (sym c.either.ensures ∙ c.if-either.true) c.regexes_prop.ensures

pub returns : goal.returns
returns g c = rw (c.in_ok-prop.ensures) (tests_plain _ _ _ _ _ (sym c.either.ensures ∙ c.if-either.false))
