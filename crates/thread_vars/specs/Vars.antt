-- The variables of a thread: names with their values, and how many bytes they may have.
pub use Rattle.name_map.specs.Names.{Variables, by_bytes, value_of, FitsIn, with_var, without_var, is_same, IsInOrder}
use Rattle.std.specs.Prelude.{◌≡◌, ℕ, ◌+◌, ◌≤◌, Bool, ◌&&◌, nat_le, List, [], ◌∷◌, ◌++◌, codes, length, Option, Some, None, Result, Ok, Err, if◌then◌else◌}
use Rattle.thread_vars.specs.declared.error.VarError.{VarError}
use Rattle.thread_vars.specs.declared.error.VarError.TheVariants.{ValueLimit, NoMemory}

-- the bytes of all names and values
abbrev pub bytes_of : Variables → ℕ
bytes_of [] = 0
bytes_of (v ∷ vars) = length v.0 + length v.1 + bytes_of vars

-- how many bytes a value may have, and so an argument or a whole expansion
abbrev pub most_text : ℕ
most_text = 65536

-- how many bytes all names and values of one thread may have
abbrev pub most_bytes : ℕ
most_bytes = 4194304

-- a variable is set, where its value and the sum of all are within their limits
abbrev pub put_var : List ℕ → List ℕ → Variables → Option Variables
put_var name value vars =
    if nat_le (length value) most_text && nat_le (bytes_of (with_var name value vars)) most_bytes then Some (with_var name value vars) else None

-- the index variable of a looping element of this name
abbrev pub index_name : List ℕ → List ℕ
index_name name = codes "__jm__" ++ name ++ codes "__idx"

-- the variable that says whether the last sample succeeded, and how it says so
abbrev pub last_sample_ok : List ℕ
last_sample_ok = codes "JMeterThread.last_sample_ok"

abbrev pub truth_text : Bool → List ℕ
truth_text ok = if ok then codes "true" else codes "false"

-- the variables after one was to be set: as they are to be, or as they were
abbrev pub Puts : Option Variables → Variables → Variables → Result (Unit {0}) VarError → Type 0
Puts made old new (Ok u) = made ≡ Some new
Puts made old new (Err ValueLimit) = (made ≡ None) × (new ≡ old)
Puts made old new (Err NoMemory) = new ≡ old

-- the bytes of a name and its value, where it is defined
abbrev pub bytes_found : List ℕ → Option (List ℕ) → ℕ
bytes_found name None = 0
bytes_found name (Some value) = length name + length value

abbrev pub bytes_at : List ℕ → Variables → ℕ
bytes_at name vars = bytes_found name (value_of name vars)

-- what is kept of variables: how many bytes they have, which is within the limit, and each name once, in order
pub record IsKept (bytes : ℕ) (vars : Variables) : Type 0 where
  pub sum : bytes ≡ bytes_of vars
  pub limit : bytes ≤ most_bytes
  pub ordered : IsInOrder vars
