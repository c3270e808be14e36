use Rattle.std.proofs.Common.{arith, sym, ◌∙◌}
use Rattle.var_functions.proofs.Numerals.{too_large}
use Rattle.var_functions.proofs.number.magnitude.Goals as goal

pub returns-then-value : goal.returns-then-value
returns-then-value c =
    too_large c.loop-byte.value c.loop-byte.byte-index c.args.digits.now c.loop-byte-test.true c.loop-byte.invariant.value
    (sym c.is_ascii_digit.ensures.value ∙ c.if-not-is_ascii_digit.false) (omega arith)
