use Rattle.std.proofs.Common.{◌≡◌, ◌≤◌, ◌^◌, drop}
use Rattle.std.specs.Prelude.{min}
use Rattle.std.specs.List.{list_all}
use Rattle.std.specs.Char.{is_ascii_digit}
use Rattle.std.specs.Str.Parse.{digits_value, digits_value_after}
use Rattle.http_lines.proofs.fields.length_value.Given as goal

-- the bytes so far are digits, and their number is cut
abbrev pub invariant-loop-byte : goal.invariant-loop-byte
invariant-loop-byte l = record {
  all : list_all is_ascii_digit (drop l.byte-index l.value) ≡ list_all is_ascii_digit l.value;
  value : min (digits_value_after 10 l.number (drop l.byte-index l.value)) (2 ^ 63) ≡ min (digits_value 10 l.value) (2 ^ 63);
  bound : l.number ≤ 2 ^ 63;
}
