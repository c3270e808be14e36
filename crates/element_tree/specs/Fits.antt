-- What holds of a value that was read under the form of its property.
use Rattle.std.specs.Prelude.{◌≡◌, ℕ, pos, Bool, true, false, ◌&&◌, List, [], ◌∷◌, length, bytes_eq, nat_lt, int_le, is_some}
use Rattle.std.specs.List.{list_any}
use Rattle.std.specs.Result.{is_ok}
use Rattle.json_path.specs.PathMachine.{path_of}
use Rattle.element_props.specs.declared.prop.Prop.{Prop}
use Rattle.element_props.specs.declared.prop.Prop.TheVariants.{Absent, Template, Text, Number, Truth, Word, Pattern, Pairs, Replies, Texts, Patterns}
use Rattle.element_props.specs.NamedProps.{NamedValue}
use Rattle.element_props.specs.Forms.{filled_text}
use Rattle.element_props.specs.FormRows.{Form, template, plain, filled, lock, whole, up_to, flag, choice, pattern, test_patterns, pairs, replies, texts, csv, json_path, largest, Presence, optional, Row}

abbrev pub IsShort : ℕ → List ℕ → Type 0
IsShort limit s = nat_lt limit (length s) ≡ false

abbrev pub IsFilled : List ℕ → Type 0
IsFilled s = is_some (filled_text s) ≡ true

abbrev pub FitsForm : Form → Prop → Type 0
FitsForm template (Template ps) = Unit {0}
FitsForm plain (Text s) = IsShort 65536 s
FitsForm filled (Text s) = IsShort 65536 s × IsFilled s
FitsForm lock (Text s) = IsShort 256 s × IsFilled s
FitsForm (whole low high) (Number z) = (int_le low z && int_le z high) ≡ true
FitsForm (up_to name) (Number z) = (int_le (pos 0) z && int_le z largest) ≡ true
FitsForm flag (Truth b) = Unit {0}
FitsForm (choice words) (Word text) = list_any (λ w. bytes_eq w text) words ≡ true
FitsForm pattern (Pattern s) = IsShort 65536 s
FitsForm test_patterns (Patterns ss rs ws) = Unit {0}
FitsForm pairs (Pairs ps) = Unit {0}
FitsForm replies (Replies rs) = Unit {0}
FitsForm texts (Texts ts) = Unit {0}
FitsForm (csv names) (Text s) = IsShort 65536 s
FitsForm json_path (Text s) = IsShort 65536 s × (is_ok (path_of s) ≡ true)
FitsForm form p = ⊥

abbrev pub is_optional : Presence → Bool
is_optional optional = true
is_optional presence = false

-- a property that may be absent, or a value of its form
abbrev pub FitsRow : Row → Prop → Type 0
FitsRow row Absent = is_optional row.presence ≡ true
FitsRow row p = FitsForm row.form p

-- a property for each row, by the row's name
abbrev pub FitsAll : List Row → List NamedValue → Type 0
FitsAll [] [] = Unit {0}
FitsAll (row ∷ rows) (p ∷ ps) = (p.name ≡ row.name) × FitsRow row p.value × FitsAll rows ps
FitsAll rows ps = ⊥
