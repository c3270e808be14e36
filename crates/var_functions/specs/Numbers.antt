-- Numbers as functions read and write them.
use Rattle.std.specs.Prelude.{ℕ, ◌+◌, ◌%◌, ◌^◌, ℤ, pos, neg_ℤ, ◌+ℤ◌, ◌-ℤ◌, int_le, int_lt, unsigned_abs, nat_le, Bool, true, false, not, ◌&&◌, ◌==◌, List, [], ◌∷◌, length, Option, Some, None, if◌then◌else◌, option_and_then}
use Rattle.std.specs.List.{list_all}
use Rattle.std.specs.Char.{is_ascii_digit}
use Rattle.std.specs.Str.Parse.{digits_value}

-- the number that one or more decimal digits write, with zeros at the start or not, where it is at most 2 ^ 63
abbrev pub magnitude : List ℕ → Option ℕ
magnitude digits =
    if not (length digits == 0) && list_all is_ascii_digit digits && nat_le (digits_value 10 digits) (2 ^ 63) then Some (digits_value 10 digits) else None

abbrev pub signed : Bool → ℕ → ℤ
signed negative n = if negative then neg_ℤ (pos n) else pos n

-- the number, where it is at least the negated limit and below the limit
abbrev pub within : ℕ → ℤ → Option ℤ
within limit z = if int_le (neg_ℤ (pos limit)) z && int_lt z (pos limit) then Some z else None

-- A number: an optional `-` and decimal digits, within the signed bits whose limit this is.
abbrev pub number_within : ℕ → List ℕ → Option ℤ
number_within limit [] = None
number_within limit (c ∷ cs) =
    if c == 45 then option_and_then (λ n. within limit (signed true n)) (magnitude cs)
    else option_and_then (λ n. within limit (signed false n)) (magnitude (c ∷ cs))

-- 64 signed bits, and 32
abbrev pub number : List ℕ → Option ℤ
number text = number_within (2 ^ 63) text

abbrev pub small_number : List ℕ → Option ℤ
small_number text = number_within (2 ^ 31) text

-- the number that a word picks from the least to the most
abbrev pub picked : ℤ → ℤ → ℕ → ℤ
picked least most word = least +ℤ pos (word % (unsigned_abs (most -ℤ least) + 1))

abbrev pub plus : Option ℤ → Option ℤ → Option ℤ
plus (Some x) (Some y) = Some (x +ℤ y)
plus (Some x) None = None
plus None y = None

-- the sum of numbers of 32 signed bits each
abbrev pub sum_of : List (List ℕ) → Option ℤ
sum_of [] = Some (pos 0)
sum_of (text ∷ texts) = plus (small_number text) (sum_of texts)

-- that sum, where it is within 32 signed bits
abbrev pub int_sum : List (List ℕ) → Option ℤ
int_sum texts = option_and_then (within (2 ^ 31)) (sum_of texts)
