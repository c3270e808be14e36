-- What stands where a call was refused on its way.
use Rattle.std.specs.Prelude.{◌≡◌, List, [], ◌++◌}
use Rattle.jm_base.specs.Run.{over}
use Rattle.jm_base.specs.Outside.{Account, Goes}
use Rattle.element_props.specs.declared.prop.Pair.{Pair}
use Rattle.var_functions.specs.declared.state.UserState.{UserState}
use Rattle.var_functions.specs.Came.{LeftOf}
pub use Rattle.trials.specs.CutShort.{StandsLater}
use Rattle.jm_meaning.specs.State.{Own, state_of, normal}
use Rattle.jm_meaning.specs.Beginning.{set_all}

-- A prefix of these pairs is set, each when its turn came. Since then the variables are as they were, functions stand at
-- a later moment, and the outside has been asked for what is left of the pairs alone.
pub record SetsPrefix (before : Account) (pairs : List Pair) (old : UserState) (after : Account) (new : UserState) : Type 0 where
  pub done : List Pair
  pub left : List Pair
  pub order : pairs ≡ done ++ left
  pub between : UserState
  pub moment : Account
  pub sets : (own : Own) → Goes before (set_all done (state_of old own)) [] (over (normal (state_of between own))) moment
  pub stands : StandsLater between new
  pub rest : (own : Own) → LeftOf moment (set_all left (state_of between own)) after
