-- The rows of a text of comma-separated values, by the reader of `csv` without a header row.
use Rattle.std.specs.Prelude.{ℕ, List, ◌==◌, ◌&&◌, nat_lt, length, Bool}
use Rattle.std.specs.List.{list_all}
use Rattle.csv.specs.Reading.{default_config, records, strip_bom}

-- the rows of a text, each a list of fields
abbrev pub rows_of : List ℕ → List (List (List ℕ))
rows_of text = records default_config (strip_bom text)

-- there is a row, and each row has that many fields
abbrev pub is_table : ℕ → List (List (List ℕ)) → Bool
is_table width rows = nat_lt 0 (length rows) && list_all (λ row. length row == width) rows
