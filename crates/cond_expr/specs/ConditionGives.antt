-- What a call gives, where a definition gives a value or the place of a fault.
use Rattle.std.specs.Prelude.{◌≡◌, ℕ, Result, Ok, Err}
use Rattle.cond_expr.specs.declared.value.CondError.{CondError}
use Rattle.cond_expr.specs.declared.value.CondError.TheVariants.{BadCond, NoMemory}

-- the value, or the fault at its place; out of memory may stand in place of either
abbrev pub Gives : {A : Type 0} → Result A CondError → Result A ℕ → Type 0
Gives (Ok x) answer = answer ≡ Ok x
Gives (Err (BadCond at)) answer = answer ≡ Err at
Gives (Err NoMemory) answer = Unit {0}
