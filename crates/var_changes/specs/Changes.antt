-- Changes of variables, one after another.
use Rattle.std.specs.Prelude.{◌≡◌, ℕ, Bool, true, false, List, [], ◌∷◌, ◌++◌, Option, Some, None, Result, Ok, Err}
use Rattle.thread_vars.specs.declared.error.VarError.{VarError}
use Rattle.thread_vars.specs.declared.error.VarError.TheVariants.{ValueLimit, NoMemory}
use Rattle.thread_vars.specs.Vars.{Variables, put_var, without_var}
use Rattle.var_changes.specs.declared.put.Variable.{Variable}

-- one change: the variable of a name is removed, or a variable is set
pub data Change : Type 0 where
  Removes : (name : List ℕ) → Change
  Sets : (name value : List ℕ) → Change

abbrev pub setting : Variable → Change
setting v = Sets v.name v.value

-- the variables after changes, and whether all of them were made
pub record Changed : Type 0 where
  pub vars : Variables
  pub whole : Bool

-- goes on with what a variable that was set has made of the variables; past a limit they stay, and nothing more is changed
abbrev pub go_on : (Variables → Changed) → Variables → Option Variables → Changed
go_on more old None = record { vars = old; whole = false }
go_on more old (Some vars) = more vars

-- these changes are made, one after another, up to the first that would pass a limit
abbrev pub changed : List Change → Variables → Changed
changed [] vars = record { vars = vars; whole = true }
changed (Removes name ∷ more) vars = changed more (without_var name vars)
changed (Sets name value ∷ more) vars = go_on (changed more) vars (put_var name value vars)

-- a prefix of the changes was made, and nothing more
pub record ChangedInPart (changes : List Change) (old new : Variables) : Type 0 where
  pub made : List Change
  pub rest : List Change
  pub split : made ++ rest ≡ changes
  pub vars : changed made old ≡ record { vars = new; whole = true }

-- the variables after a call that was to make these changes: all are made, or those before the first that would pass a
-- limit, or out of memory a prefix
abbrev pub Changes : List Change → Variables → Variables → Result (Unit {0}) VarError → Type 0
Changes changes old new (Ok u) = changed changes old ≡ record { vars = new; whole = true }
Changes changes old new (Err ValueLimit) = changed changes old ≡ record { vars = new; whole = false }
Changes changes old new (Err NoMemory) = ChangedInPart changes old new
