use Rattle.std.proofs.Common.{sym, ap, ◌∙◌}
use Rattle.element_props.specs.Forms.{has_reference}
use Rattle.element_props.proofs.ReadsLaws.{pattern_refers, pattern_gives}
use Rattle.element_props.proofs.asking.pattern.Goals as goal

pub returns-then-has_reference-clause-gives : goal.returns-then-has_reference-clause-gives
returns-then-has_reference-clause-gives g c = rw (c.in_ok-prop_path.ensures) (pattern_refers _ _ _ (ap has_reference (sym c.as_bytes.ensures.value) ∙ sym c.has_reference.ensures ∙ c.if-has_reference.true))

pub returns-clause-gives : goal.returns-clause-gives
returns-clause-gives g c = pattern_gives (λ p. p) _ _ _ _ _ (ap has_reference (sym c.as_bytes.ensures.value) ∙ sym c.has_reference.ensures ∙ c.if-has_reference.false) c.made.ensures.gives
