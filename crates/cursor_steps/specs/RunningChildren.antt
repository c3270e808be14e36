-- The children that a controller runs.
use Rattle.std.specs.Prelude.{◌≡◌, ℕ, ◌+◌, ◌<◌, min, Bool, true, false, List, length, Option, Some, None, Result, IfOk, IsOkAnd, slice_get, nat_lt}
use Rattle.std.specs.List.{filter}
use Rattle.element_tree.specs.declared.kinds.Element.{Element}
use Rattle.element_tree.specs.declared.types.Class.{Class}
use Rattle.element_tree.specs.declared.types.Class.TheVariants.{Controller, Sampler}
use Rattle.element_tree.specs.declared.package.Turn.{Turn}
use Rattle.element_tree.specs.declared.package.Turn.TheVariants.{Child, Round, Over}
use Rattle.element_tree.specs.Types.{class_of}
use Rattle.thread_vars.specs.declared.error.VarError.{VarError}
use Rattle.cursor_steps.specs.declared.pass.Pass.{Pass}

-- controllers and samplers are run; elements of the other classes apply to samplers
abbrev pub is_run_class : Class → Bool
is_run_class Controller = true
is_run_class Sampler = true
is_run_class class = false

-- whether the element of this number is there and is run
abbrev pub is_run : Option Element → Bool
is_run None = false
is_run (Some element) = is_run_class (class_of element.kind)

abbrev pub is_run_at : List Element → ℕ → Bool
is_run_at elements number = is_run (slice_get elements number)

-- The numbers of the children that are controllers or samplers, in order. `Child i` runs the one at the place i, from 0.
abbrev pub runs_of : List Element → Element → List ℕ
runs_of elements element = filter (is_run_at elements) element.children

-- how many there are; a place has 16 bits, which the children of no plan fill
abbrev pub run_count : List Element → Element → ℕ
run_count elements element = min (length (runs_of elements element)) 65535

-- the place of a child that is run is below the number of children
abbrev pub IsAmong : ℕ → Turn → Type 0
IsAmong children (Child place) = place < children
IsAmong children Round = Unit {0}
IsAmong children Over = Unit {0}

-- ---- a pass over this many children

-- before the first of them
abbrev pub pass_over : ℕ → Pass
pass_over children = record { children = children; next = 0 }

-- with none of them left
abbrev pub none_left : ℕ → Pass
none_left children = record { children = children; next = children }

abbrev pub is_left : Pass → Bool
is_left p = nat_lt p.next p.children

-- with one more of them run
abbrev pub after_child : Pass → Pass
after_child p = record p { next = p.next + 1 }

-- the pass of a controller after its answer: the child that comes next is run, or a pass over all children begins, or it stands
abbrev pub Passes : Pass → Pass → Turn → Type 0
Passes old new (Child place) = (place ≡ old.next) × (place < old.children) × (new ≡ after_child old)
Passes old new Round = new ≡ pass_over old.children
Passes old new Over = new ≡ old

-- how a turn leaves the pass of a controller that runs its children in order
pub record PassTurn (old new : Pass) (result : Result Turn VarError) : Type 0 where
  pub child : IfOk result (IsAmong old.children)
  pub pass : IfOk result (Passes old new)
  pub children : new.children ≡ old.children

-- the same of a controller that never refuses a turn
pub record SurePassTurn (old new : Pass) (result : Result Turn VarError) : Type 0 where
  pub child : IsOkAnd result (IsAmong old.children)
  pub pass : IsOkAnd result (Passes old new)
  pub children : new.children ≡ old.children

-- ---- what turns do to a controller's rounds, and to the children that it still has to run

-- a thread begins at most this many rounds
abbrev pub most_rounds : ℕ
most_rounds = 16777216

-- how many rounds have begun after a turn
abbrev pub begun_after : ℕ → Turn → ℕ
begun_after begun (Child place) = begun
begun_after begun Round = begun + 1
begun_after begun Over = begun

-- an element that answers a child has fewer of them left
abbrev pub TakesChild : ℕ → ℕ → Turn → Type 0
TakesChild old new (Child place) = new < old
TakesChild old new Round = Unit {0}
TakesChild old new Over = Unit {0}
