use Rattle.std.proofs.Common.{◌≡◌, ◌≤◌, drop, length, ◌<◌}
use Rattle.std.specs.List.{list_all}
use Rattle.std.specs.Char.{is_ascii_digit}
use Rattle.std.specs.Str.Parse.{digits_value, digits_value_after}
use Rattle.command_words.proofs.value.number_between.Given as goal

-- the bytes so far are digits, and their number is the value
abbrev pub invariant-loop-byte : goal.invariant-loop-byte
invariant-loop-byte l = record {
  all : list_all is_ascii_digit (drop l.byte-index l.text) ≡ list_all is_ascii_digit l.text;
  value : digits_value_after 10 l.value (drop l.byte-index l.text) ≡ digits_value 10 l.text;
  bound : l.value ≤ l.most;
  some : 0 < length l.text;
  short : length l.text ≤ 20;
}
