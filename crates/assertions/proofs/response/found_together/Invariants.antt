use Rattle.std.proofs.Common.{◌≡◌, drop}
use Rattle.element_props.specs.declared.choices.TestKind.TheVariants.{Contains}
use Rattle.assertions.specs.Judging.{turned, together, meets}
use Rattle.assertions.proofs.response.found_together.Given as goal

abbrev pub invariant-patterns : goal.invariant-patterns
invariant-patterns l = together l.fn.either (λ tried. turned l.fn.negate (meets Contains l.fn.text tried)) (drop l.pattern-index l.fn.patterns)
    ≡ together l.fn.either (λ tried. turned l.fn.negate (meets Contains l.fn.text tried)) l.fn.patterns
