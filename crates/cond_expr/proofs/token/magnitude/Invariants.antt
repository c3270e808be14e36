use Rattle.std.proofs.Common.{◌≡◌, ◌≤◌, ◌^◌, drop}
use Rattle.std.specs.Str.Parse.{digits_value, digits_value_after}
use Rattle.cond_expr.specs.Tokens.{leading_digits}
use Rattle.cond_expr.proofs.token.magnitude.Given as goal

abbrev pub invariant-loop-byte : goal.invariant-loop-byte
invariant-loop-byte l =
    (digits_value_after 10 l.value (leading_digits (drop l.byte-index l.bytes)) ≡ digits_value 10 (leading_digits l.bytes)) × (l.value ≤ 2 ^ 63)
