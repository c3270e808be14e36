-- What stands where the start of a round was cut, out of memory: those before have advanced, and of the variables of the one at
-- which it was cut a prefix is set.
use Rattle.std.specs.Prelude.{◌≡◌, ℕ, true, List, [], ◌∷◌, ◌++◌, map, Option, Some, None, slice_get, slice_index_or}
use Rattle.jm_base.specs.Run.{over}
use Rattle.element_tree.specs.declared.kinds.Element.{Element}
use Rattle.var_functions.specs.declared.state.UserState.{UserState}
use Rattle.var_changes.specs.declared.put.Variable.{Variable}
use Rattle.var_changes.specs.Changes.{Change, ChangedInPart, setting}
use Rattle.cursor_steps.specs.CursorStep.{answers}
use Rattle.config_elements.specs.declared.rounds.Advance.{Advance}
use Rattle.config_elements.specs.RoundStart.{advance_at, begin_each}

-- the changes that set these variables, if there are any
abbrev pub settings_of : Option (List Variable) → List Change
settings_of None = []
settings_of (Some variables) = map setting variables

-- The element stays at its place, and of the variables that it gives there a prefix is set.
pub record FeedsInPart (elements : List Element) (n : ℕ) (old : List ℕ) (before : UserState) (new : List ℕ) (after : UserState) : Type 0 where
  pub places : new ≡ old
  pub fns : after.fns ≡ before.fns
  pub advance : Advance
  pub gives : advance_at (slice_get elements n) (slice_index_or old n 0) ≡ over advance
  pub vars : ChangedInPart (settings_of advance.sets) before.vars after.vars

-- Of these elements some have advanced, in their order, and the next one is fed in part.
pub record CutsRound (elements : List Element) (numbers old : List ℕ) (before : UserState) (new : List ℕ) (after : UserState) : Type 0 where
  pub done : List ℕ
  pub one : ℕ
  pub left : List ℕ
  pub order : numbers ≡ done ++ one ∷ left
  pub places : List ℕ
  pub state : UserState
  pub advanced : begin_each elements done old before ≡ answers true places state
  pub next : FeedsInPart elements one places state new after
