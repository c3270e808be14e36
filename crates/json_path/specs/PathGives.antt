-- What a call gives, where a definition gives a value or the place of a fault.
use Rattle.std.specs.Prelude.{◌≡◌, ℕ, Result, Ok, Err, List, Vec}
use Rattle.std.specs.declared.alloc.Global.{Global}
use Rattle.json_path.specs.declared.path.Step.{Step}
use Rattle.json_path.specs.declared.path.PathError.{PathError}
use Rattle.json_path.specs.declared.path.PathError.TheVariants.{BadPath, NoMemory}

-- the list in a Vec
abbrev pub steps_of : Result (Vec Step Global) PathError → Result (List Step) PathError
steps_of (Ok steps) = Ok steps.items
steps_of (Err e) = Err e

-- the value, or the fault at its place; out of memory may stand in place of either
abbrev pub Gives : {A : Type 0} → Result A PathError → Result A ℕ → Type 0
Gives (Ok x) answer = answer ≡ Ok x
Gives (Err (BadPath at)) answer = answer ≡ Err at
Gives (Err NoMemory) answer = Unit {0}
