-- The rows of a type's table: each of its properties, with the form of its value and what stands for it where it is absent.
use Rattle.std.specs.Prelude.{ℕ, ◌-◌, ◌^◌, ℤ, pos, Bool, true, ◌&&◌, nat_le, length, List, [], ◌∷◌, slice_get, unwrap_or}

-- the form of a property's value
pub data Form : Type 0 where
  template : Form
  plain : Form
  filled : Form
  lock : Form
  whole : ℤ → ℤ → Form
  up_to : List ℕ → Form
  flag : Form
  choice : List (List ℕ) → Form
  pattern : Form
  test_patterns : Form
  pairs : Form
  replies : Form
  texts : Form
  csv : List ℕ → Form
  json_path : Form

-- what stands for a property that is absent
pub data Presence : Type 0 where
  required : Presence
  optional : Presence
  text_default : List ℕ → Presence
  number_default : ℤ → Presence
  truth_default : Bool → Presence
  first_choice : Presence
  no_pairs : Presence

pub record Row : Type 0 where
  pub name : List ℕ
  pub form : Form
  pub presence : Presence

infix 5 ◌is◌otherwise◌
abbrev pub ◌is◌otherwise◌ : List ℕ → Form → Presence → Row
name is form otherwise presence = record { name = name; form = form; presence = presence }

abbrev pub largest : ℤ
largest = pos (2 ^ 63 - 1)

-- a text that stands for an absent property is no longer than one that may be given
abbrev pub is_short : Presence → Bool
is_short (text_default s) = nat_le (length s) 65536
is_short presence = true

abbrev pub are_short : List Row → Bool
are_short [] = true
are_short (row ∷ rows) = is_short row.presence && are_short rows

-- the texts of a choice, and the first of them
abbrev pub words_of : Form → List (List ℕ)
words_of (choice words) = words
words_of form = []

abbrev pub first_word : Form → List ℕ
first_word form = unwrap_or (slice_get (words_of form) 0) []
