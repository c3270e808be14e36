-- Values that an evaluation has left, the last one on top.
use Rattle.std.specs.Prelude.{◌≡◌, ℕ, ◌<◌, Bool, List, [], ◌∷◌, ◌++◌, Option, Some, None, Result, Ok, Err}
use Rattle.cond_expr.specs.declared.value.CondValue.{CondValue}
use Rattle.cond_expr.specs.declared.value.CondValue.TheVariants.{Truth}
use Rattle.cond_expr.specs.declared.value.CondError.{CondError}
use Rattle.cond_expr.specs.declared.value.CondError.TheVariants.{BadCond, NoMemory}
use Rattle.cond_expr.specs.declared.cond.Step.{Step}
use Rattle.cond_expr.specs.declared.cond.Step.TheVariants.{Value, Not, Apply}
use Rattle.cond_expr.specs.ConditionWorth.{opposite, applied}

-- as a list with the top at its end
abbrev pub pile : List CondValue → List CondValue
pile [] = []
pile (v ∷ vs) = pile vs ++ v ∷ []

-- An operator puts a truth on the values below its operands, or finds its fault.
abbrev pub Puts : ℕ → Option Bool → List CondValue → Result (Unit {0}) CondError → List CondValue → Type 0
Puts at (Some p) below (Ok u) items = items ≡ pile (Truth p ∷ below)
Puts at (Some p) below (Err (BadCond n)) items = ⊥
Puts at (Some p) below (Err NoMemory) items = Unit {0}
Puts at None below (Ok u) items = ⊥
Puts at None below (Err (BadCond n)) items = n ≡ at
Puts at None below (Err NoMemory) items = Unit {0}

-- What steps come to over these values, the top first: a value, a fault, or nothing, where a value is missing or left over.
abbrev pub on_truth : ℕ → Option Bool → (CondValue → Option (Result CondValue ℕ)) → Option (Result CondValue ℕ)
on_truth at (Some p) go = go (Truth p)
on_truth at None go = Some (Err at)

unfoldable pub outcome_of : List Step → List CondValue → Option (Result CondValue ℕ)
outcome_of [] [] = None
outcome_of [] (v ∷ []) = Some (Ok v)
outcome_of [] (v ∷ w ∷ vs) = None
outcome_of (Value v ∷ ss) vs = outcome_of ss (v ∷ vs)
outcome_of (Not at ∷ ss) [] = None
outcome_of (Not at ∷ ss) (v ∷ vs) = on_truth at (opposite v) (λ t. outcome_of ss (t ∷ vs))
outcome_of (Apply at op ∷ ss) [] = None
outcome_of (Apply at op ∷ ss) (w ∷ []) = None
outcome_of (Apply at op ∷ ss) (w ∷ v ∷ vs) = on_truth at (applied op v w) (λ t. outcome_of ss (t ∷ vs))

-- A step has been done: what comes of the steps after it, over the values that are left now, is what came of it and them, or it was the fault.
abbrev pub Advances : Step → Result (Unit {0}) CondError → List CondValue → List CondValue → Type 0
Advances step (Ok u) old new =
    (ss : List Step) (vs : List CondValue) (r : Result CondValue ℕ) → old ≡ pile vs → outcome_of (step ∷ ss) vs ≡ Some r →
    (ws : List CondValue) × (new ≡ pile ws) × (outcome_of ss ws ≡ Some r)
Advances step (Err (BadCond at)) old new =
    (ss : List Step) (vs : List CondValue) (r : Result CondValue ℕ) → old ≡ pile vs → outcome_of (step ∷ ss) vs ≡ Some r → r ≡ Err at
Advances step (Err NoMemory) old new = Unit {0}

-- the step finds the values that it takes
abbrev pub IsReady : Step → ℕ → Type 0
IsReady (Value v) n = Unit {0}
IsReady (Not at) n = 0 < n
IsReady (Apply at op) n = 1 < n
