use Rattle.std.proofs.Common.{refl}
use Rattle.element_tree.specs.Kinds.{kind_of}
use Rattle.element_tree.proofs.make.response_assertion_of.Goals as goal

pub returns : goal.returns
unfolding kind_of
returns c =
    rw (
      ← c.in_ok-field.ensures.value,
      ← c.choice.ensures.rest,
      ← c.take.ensures.value,
      ← c.in_ok-ignore_status.ensures,
      ← c.take.ensures.rest,
      ← c.take-2.ensures.value,
      ← c.in_ok-not.ensures,
      ← c.take-2.ensures.rest,
      ← c.take-3.ensures.value,
      ← c.in_ok-or.ensures,
      ← c.take-3.ensures.rest,
      ← c.take-4.ensures.value,
      ← c.in_ok-patterns.ensures,
      ← c.take-4.ensures.rest,
      ← c.in_ok-test.ensures.value,
    ) refl
