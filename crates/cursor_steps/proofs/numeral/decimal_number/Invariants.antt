use Rattle.std.proofs.Common.{◌≡◌, ◌≤◌, ◌^◌, ◌-◌, drop}
use Rattle.std.specs.Prelude.{min}
use Rattle.std.specs.List.{list_all}
use Rattle.std.specs.Char.{is_ascii_digit}
use Rattle.std.specs.Str.Parse.{digits_value, digits_value_after}
use Rattle.cursor_steps.proofs.numeral.decimal_number.Given as goal

-- the bytes so far are digits, and their number is cut
abbrev pub invariant-loop-byte : goal.invariant-loop-byte
invariant-loop-byte l = record {
  all : list_all is_ascii_digit (drop l.byte-index l.text) ≡ list_all is_ascii_digit l.text;
  value : min (digits_value_after 10 l.number (drop l.byte-index l.text)) (2 ^ 32 - 1) ≡ min (digits_value 10 l.text) (2 ^ 32 - 1);
  bound : l.number ≤ 2 ^ 32 - 1;
}
