-- What the answer of a call says, where it follows a reading.
use Rattle.std.specs.Prelude.{◌≡◌, Bool, true, false, Result, Err}
use Rattle.element_props.specs.declared.error.BuildError.{BuildError}
use Rattle.element_props.specs.declared.error.BuildError.TheVariants.{BadPattern, NoMemory}
use Rattle.element_props.specs.declared.error.PatternFault.TheVariants.{Size}

-- a refusal that is the maker's alone: it found a pattern too large
abbrev pub is_of_maker : BuildError → Bool
is_of_maker (BadPattern p Size) = true
is_of_maker e = false

-- a call answered this, unless memory ran out
abbrev pub Answered : {X : Type 0} → Result X BuildError → BuildError → Type 0
Answered result e = (result ≡ Err NoMemory → ⊥) → result ≡ Err e

-- a call that refused with this did so by the plan alone, by the grammar of patterns too: neither a pattern's size nor memory was the cause
abbrev pub IsByPlan : BuildError → Type 0
IsByPlan e = (is_of_maker e ≡ false) × (e ≡ NoMemory → ⊥)
