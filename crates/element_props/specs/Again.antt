-- When what is written of an element's properties is read again as the same properties.
use Rattle.std.specs.Prelude.{◌≡◌, ℕ, ◌<◌, ◌^◌, pos, Bool, true, not, ◌&&◌, List, [], ◌∷◌, Option, Some, None, Ok, if◌then◌else◌, bytes_eq, int_le, map, codes, IsUtf8, FitsSigned}
use Rattle.std.specs.Int.{w64}
use Rattle.std.specs.List.{AllByRecursion}
use Rattle.serde_json.specs.Data.{Num, unsigned, negative, float, Data, null, boolean, number, string, array, object, Items, no_items, item, Members, no_members, member}
use Rattle.element_props.specs.NamedProps.{NamedValue}
use Rattle.element_props.specs.ChoiceTexts.{test_word, tests}
use Rattle.element_props.specs.FormRows.{Row, Form, whole, up_to, csv, texts, test_patterns, choice, number_default, required, largest, ◌is◌otherwise◌}
use Rattle.element_props.specs.Props.{has_row, own_properties}
use Rattle.element_props.specs.Reads.{outcome}
use Rattle.element_props.specs.PropertiesWritten.{written}

abbrev pub HasWidth : Num → Type 0
HasWidth (unsigned n) = n < 2 ^ 64
HasWidth (negative z) = FitsSigned w64 z
HasWidth (float x) = Unit {0}

-- What a JSON text holds: each text in it is UTF-8, and each whole number has at most 64 bits.
abbrev mutual
  pub IsJson : Data → Type 0
  IsJson null = Unit {0}
  IsJson (boolean b) = Unit {0}
  IsJson (number n) = HasWidth n
  IsJson (string s) = IsUtf8 s
  IsJson (array ds) = AreJson ds
  IsJson (object ms) = HoldJson ms

  pub AreJson : Items → Type 0
  AreJson no_items = Unit {0}
  AreJson (item d ds) = IsJson d × AreJson ds

  pub HoldJson : Members → Type 0
  HoldJson no_members = Unit {0}
  HoldJson (member k d ms) = IsJson d × HoldJson ms

-- the names of the rows are apart
abbrev pub are_apart : List Row → Bool
are_apart [] = true
are_apart (row ∷ rows) = not (has_row row.name rows) && are_apart rows

-- the first row of this name
abbrev pub row_named : List ℕ → List Row → Option Row
row_named name [] = None
row_named name (row ∷ rows) = if bytes_eq name row.name then Some row else row_named name rows

-- a form among these rows: the property that it looks at has its form and its default there, and its numbers have 64 bits
abbrev pub Stands : List Row → Form → Type 0
Stands rows (whole low high) = int_le high largest ≡ true
Stands rows (up_to name) = row_named name rows ≡ Some (name is whole (pos 0) largest otherwise number_default largest)
Stands rows (csv names) = row_named names rows ≡ Some (names is texts otherwise required)
Stands rows test_patterns = row_named (codes "test") rows ≡ Some (codes "test" is choice (map test_word tests) otherwise required)
Stands rows form = Unit {0}

-- rows of a table
pub record AreRows (rows : List Row) : Type 0 where
  pub apart : are_apart rows ≡ true
  pub stand : AllByRecursion (λ row. Stands rows row.form) rows

-- What is written of properties that were read is read again as these properties, wherever the element stands.
abbrev pub ReadsAgain : Type 0
ReadsAgain = (rows : List Row) (ms : Members) (ps : List NamedValue) (places other : List ℕ) → AreRows rows → HoldJson ms
    → outcome (own_properties places ms rows) ≡ Ok ps → outcome (own_properties other (written rows ps) rows) ≡ Ok ps
