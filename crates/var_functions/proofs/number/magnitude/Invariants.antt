use Rattle.std.proofs.Common.{◌≡◌, ◌≤◌, ◌^◌, drop, length, ◌<◌}
use Rattle.std.specs.List.{list_all}
use Rattle.std.specs.Char.{is_ascii_digit}
use Rattle.std.specs.Str.Parse.{digits_value, digits_value_after}
use Rattle.var_functions.proofs.number.magnitude.Given as goal

-- the bytes so far are digits, and their number is the value
abbrev pub invariant-loop-byte : goal.invariant-loop-byte
invariant-loop-byte l = record {
  all : list_all is_ascii_digit (drop l.byte-index l.digits) ≡ list_all is_ascii_digit l.digits;
  value : digits_value_after 10 l.value (drop l.byte-index l.digits) ≡ digits_value 10 l.digits;
  bound : l.value ≤ 2 ^ 63;
  some : 0 < length l.digits;
}
