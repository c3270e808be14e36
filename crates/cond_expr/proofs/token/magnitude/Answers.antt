use Rattle.std.proofs.Common.{arith, sym, ◌∙◌}
use Rattle.cond_expr.proofs.Digits.{too_large}
use Rattle.cond_expr.proofs.token.magnitude.Goals as goal

pub returns-then-value : goal.returns-then-value
returns-then-value c =
    too_large c.loop-byte.value c.loop-byte.byte-index c.args.bytes.now c.loop-byte-test.true c.loop-byte.invariant.0
    (sym c.is_ascii_digit.ensures.value ∙ c.if-not-is_ascii_digit.false) (omega arith)
