-- Templates of a regular expression's values: each `$d$`, with decimal digits d, stands for the group of that number.
use Rattle.std.specs.Prelude.{ℕ, zero, suc, ◌+◌, ◌&&◌, ◌==◌, nat_lt, List, [], ◌∷◌, ◌++◌, take, Option, Some, None, slice_get, slice_index_or, unwrap_or, option_and_then, if◌then◌else◌}
use Rattle.std.specs.Char.{is_ascii_digit}
use Rattle.cursor_steps.specs.Numeral.{decimal_number}

-- how many digits a text begins with
abbrev pub digit_count : List ℕ → ℕ
digit_count [] = 0
digit_count (b ∷ bs) = if is_ascii_digit b then suc (digit_count bs) else 0

-- how many digits a reference has that begins with this byte, before these bytes, where it is one: `$`, one digit or more,
-- and `$`
abbrev pub reference_in : ℕ → List ℕ → Option ℕ
reference_in b bs = if b == 36 && (nat_lt 0 (digit_count bs) && slice_index_or bs (digit_count bs) 0 == 36) then Some (digit_count bs) else None

-- the group that digits name; of one that isn't there the text is empty
abbrev pub group_at : List (List ℕ) → List ℕ → List ℕ
group_at groups digits = unwrap_or (option_and_then (slice_get groups) (decimal_number digits)) []

-- a byte that stands for itself, or a reference, and then what is made of the bytes after it
abbrev pub filled_with : List (List ℕ) → (ℕ → List ℕ) → ℕ → List ℕ → Option ℕ → List ℕ
filled_with groups more b bs None = b ∷ more 0
filled_with groups more b bs (Some digits) = group_at groups (take digits bs) ++ more (digits + 1)

-- from left to right, where that many bytes still belong to a reference
abbrev pub filled_after : List (List ℕ) → ℕ → List ℕ → List ℕ
filled_after groups skip [] = []
filled_after groups (suc skip) (b ∷ bs) = filled_after groups skip bs
filled_after groups zero (b ∷ bs) = filled_with groups (λ skip. filled_after groups skip bs) b bs (reference_in b bs)

-- the value of a template by the groups, of which the first is the whole match
abbrev pub filled : List ℕ → List (List ℕ) → List ℕ
filled template groups = filled_after groups 0 template
