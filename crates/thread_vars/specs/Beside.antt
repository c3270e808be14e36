-- What stands beside the table of all variables: the value of one of them, and what is known of another.
use Rattle.std.specs.Prelude.{◌≡◌, ◌≤◌, ℕ, Bool, false, List, length, Option, Some, IfSome, if◌then◌else◌}
use Rattle.thread_vars.specs.Vars.{Variables, value_of, with_var, most_text, last_sample_ok, truth_text}

-- the variables of a table, of which one may have its value beside it
abbrev pub with_beside : Bool → List ℕ → List ℕ → Variables → Variables
with_beside beside name value vars = if beside then with_var name value vars else vars

-- the table has a value of as many bytes at the name, and this one where it is not ahead of the table
pub record IsBeside (ahead : Bool) (name value : List ℕ) (vars : Variables) : Type 0 where
  pub before : List ℕ
  pub defined : value_of name vars ≡ Some before
  pub alike : length before ≡ length value
  pub short : length value ≤ most_text
  pub same : ahead ≡ false → before ≡ value

-- where it is known whether the last sample succeeded, its variable says so
abbrev pub IsKnown : Option Bool → Variables → Type 0
IsKnown known vars = IfSome known (λ ok. value_of last_sample_ok vars ≡ Some (truth_text ok))
