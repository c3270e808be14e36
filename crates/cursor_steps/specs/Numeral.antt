-- Decimal numbers in texts that were expanded.
use Rattle.std.specs.Prelude.{ℕ, ◌-◌, ◌^◌, min, Bool, not, ◌&&◌, ◌==◌, List, length, Option, Some, None, if◌then◌else◌}
use Rattle.std.specs.List.{list_all}
use Rattle.std.specs.Char.{is_ascii_digit}
use Rattle.std.specs.Str.Parse.{digits_value}

-- digits alone, and one at least
abbrev pub is_decimal : List ℕ → Bool
is_decimal text = not (length text == 0) && list_all is_ascii_digit text

-- the number that they write, of any length; one past 32 bits is the greatest of 32 bits
abbrev pub decimal_number : List ℕ → Option ℕ
decimal_number text = if is_decimal text then Some (min (digits_value 10 text) (2 ^ 32 - 1)) else None
