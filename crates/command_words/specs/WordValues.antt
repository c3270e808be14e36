-- The values of options.
use Rattle.std.specs.Prelude.{ℕ, Bool, ◌&&◌, nat_le, List, length, Option, Some, None, Result, Ok, Err, if◌then◌else◌}
use Rattle.std.specs.List.{list_all}
use Rattle.std.specs.Char.{is_ascii_digit}
use Rattle.std.specs.Str.Parse.{digits_value}
use Rattle.var_functions.specs.RunProps.{each_is_pair, pairs_of}
use Rattle.schedule_text.specs.declared.token.Token.{Token}
use Rattle.schedule_text.specs.Reading.{reading_of}
use Rattle.command_words.specs.CommandGrammar.{Word}

-- 1 to 20 decimal digits
abbrev pub is_number : Word → Bool
is_number text = nat_le 1 (length text) && (nat_le (length text) 20 && list_all is_ascii_digit text)

-- the number that a text writes, where it is from the least to the most
abbrev pub number_between : ℕ → ℕ → Word → Option ℕ
number_between least most text =
    if is_number text && (nat_le least (digits_value 10 text) && nat_le (digits_value 10 text) most) then Some (digits_value 10 text) else None

-- the properties of a text of at most 65,536 bytes in which each pair has an `=`
abbrev pub properties_of : Word → Option (List (Word × Word))
properties_of text = if nat_le (length text) 65536 && each_is_pair text then Some (pairs_of text) else None

-- the tokens of a text that is a schedule
abbrev pub tokens_in : Result (List Token) ℕ → Option (List Token)
tokens_in (Ok tokens) = Some tokens
tokens_in (Err at) = None

-- the schedule of a text of at most 65,536 bytes
abbrev pub schedule_of : Word → Option (List Token)
schedule_of text = if nat_le (length text) 65536 then tokens_in (reading_of text) else None
