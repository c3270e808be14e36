-- A map from names to values, as the list of its pairs in the order of the names' bytes.
use Rattle.std.specs.Prelude.{◌≡◌, ◌⊎◌, ◌≤◌, ℕ, Bool, List, [], ◌∷◌, Vec, Option}
use Rattle.std.specs.Global.{Global}
use Rattle.std.specs.declared.cmp.Ordering.{Ordering}
use Rattle.std.specs.Ordering.{nat_cmp, is_eq}
use Rattle.std.specs.Cmp.Lexicographic.{slice_cmp}
use Rattle.std.specs.List.Sorted.{IsStrictlySortedBy}
use Rattle.std.specs.Map.{lookup, remove_entry, keys_of}
use Rattle.std.specs.BTreeMap.{is_at, insert_entry}

-- names with their values
abbrev pub Variables : Type 0
Variables = List (List ℕ × List ℕ)

-- the order of names
abbrev pub by_bytes : List ℕ → List ℕ → Ordering
by_bytes = slice_cmp nat_cmp

-- the same name
abbrev pub is_same : List ℕ → List ℕ → Bool
is_same name other = is_eq (by_bytes name other)

-- the value of a name, where it is defined
abbrev pub value_of : List ℕ → Variables → Option (List ℕ)
value_of name vars = lookup (is_at (by_bytes name)) vars

-- A value of that many bytes takes no memory in the place of an old one: it has as many, or fewer where the old one has at most 64.
abbrev pub FitsIn : ℕ → ℕ → Type 0
FitsIn old new = (new ≡ old) ⊎ ((new ≤ old) × (old ≤ 64))

-- with this value at the name, in place of an old one
abbrev pub with_var : List ℕ → List ℕ → Variables → Variables
with_var name value vars = insert_entry by_bytes vars name value

-- without the name
abbrev pub without_var : List ℕ → Variables → Variables
without_var name vars = remove_entry (is_at (by_bytes name)) vars

-- each name once, in order
abbrev pub IsInOrder : Variables → Type 0
IsInOrder vars = IsStrictlySortedBy by_bytes (keys_of vars)

-- the pairs of a list, each set in turn, the last of them first
abbrev pub listed : List (Vec ℕ Global × List ℕ) → Variables
listed [] = []
listed (e ∷ es) = with_var e.0.items e.1 (listed es)
