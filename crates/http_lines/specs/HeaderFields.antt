-- Header fields by their name, and the length that they give (RFC 9110, section 8.6).
use Rattle.std.specs.Prelude.{ℕ, ◌==◌, ◌^◌, Bool, ◌&&◌, nat_lt, List, [], ◌∷◌, length, Option, Some, None, if◌then◌else◌, codes}
use Rattle.std.specs.List.{list_all}
use Rattle.std.specs.Char.{is_ascii_digit}
use Rattle.std.specs.Option.{option_and_then}
use Rattle.std.specs.Str.{str_eq_ignore_ascii_case}
use Rattle.std.specs.Str.Parse.{digits_value}

-- the field has this name, whatever its case
abbrev pub is_named : List ℕ → List ℕ × List ℕ → Bool
is_named name field = str_eq_ignore_ascii_case field.0 name

-- Content-Length = 1*DIGIT, of a value below 2^63
abbrev pub length_value : List ℕ → Option ℕ
length_value value =
    if nat_lt 0 (length value) && (list_all is_ascii_digit value && nat_lt (digits_value 10 value) (2 ^ 63))
    then Some (digits_value 10 value) else None

-- a length counts where it is the first, or the same again
abbrev pub with_length : Option ℕ → ℕ → Option (Option ℕ)
with_length None n = Some (Some n)
with_length (Some m) n = if m == n then Some (Some m) else None

-- what one more field says of the length
abbrev pub next_length : List ℕ × List ℕ → Option ℕ → Option (Option ℕ)
next_length field known =
    if is_named (codes "content-length") field then option_and_then (with_length known) (length_value field.1) else Some known

-- the length that the fields give, if any does, one after the other; nothing where one is wrong, or two differ
abbrev pub length_after : Option ℕ → List (List ℕ × List ℕ) → Option (Option ℕ)
length_after known [] = Some known
length_after known (field ∷ fields) = option_and_then (λ n. length_after n fields) (next_length field known)
