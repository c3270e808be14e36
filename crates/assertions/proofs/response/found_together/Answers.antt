use Rattle.std.proofs.Common.{◌∙◌, ap, sym, List, ℕ}
use Rattle.element_props.specs.declared.choices.TestKind.TheVariants.{Contains}
use Rattle.assertions.specs.Judging.{turned, meets}
use Rattle.assertions.proofs.TogetherLaws.{decided, left-open, all-open}
use Rattle.assertions.proofs.response.found_together.Goals as goal

pub returns-then-decides : goal.returns-then-decides
returns-then-decides c =
    decided c.args.either c.turned.result (λ (tried : List ℕ). turned c.args.negate (meets Contains c.args.text.now tried)) c.args.patterns.now c.patterns.pattern-index c.pattern-item.result _
    c.patterns-test.true c.pattern-item.is (ap (turned c.args.negate) (sym c.in_ok-met.ensures) ∙ sym c.turned.ensures) (sym c.decides.ensures ∙ c.if-decides.true) c.patterns.invariant

pub patterns-preserved : goal.patterns-preserved
patterns-preserved c =
    left-open c.args.either c.turned.result (λ (tried : List ℕ). turned c.args.negate (meets Contains c.args.text.now tried)) c.args.patterns.now c.patterns.pattern-index c.pattern-item.result _
    c.patterns-test.true c.pattern-item.is (ap (turned c.args.negate) (sym c.in_ok-met.ensures) ∙ sym c.turned.ensures) (sym c.decides.ensures ∙ c.if-decides.false) c.patterns.invariant

pub returns : goal.returns
returns c =
    all-open c.args.either (λ (tried : List ℕ). turned c.args.negate (meets Contains c.args.text.now tried)) c.args.patterns.now c.patterns.pattern-index _ c.patterns-test.false c.patterns.invariant
