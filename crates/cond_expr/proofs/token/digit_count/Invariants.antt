use Rattle.std.proofs.Common.{◌≡◌, ◌+◌, length, drop}
use Rattle.cond_expr.specs.Tokens.{leading_digits}
use Rattle.cond_expr.proofs.token.digit_count.Given as goal

abbrev pub invariant-loop-count : goal.invariant-loop-count
invariant-loop-count l = l.count + length (leading_digits (drop l.count l.bytes)) ≡ length (leading_digits l.bytes)
