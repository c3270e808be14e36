-- What stands where a machine was refused on its way.
use Rattle.std.specs.Prelude.{ℕ, []}
use Rattle.jm_base.specs.Run.{Run}
use Rattle.jm_base.specs.Outside.{Account, Goes}
use Rattle.element_tree.specs.Tree.{Tree}
use Rattle.var_functions.specs.declared.state.UserState.{UserState}
use Rattle.var_functions.specs.Came.{LeftOf}
use Rattle.jm_meaning.specs.State.{State, Ending}
use Rattle.jm_meaning.specs.Meaning.{meaning}
use Rattle.jm_meaning.specs.Cut.{StandsLater}
use Rattle.control_machine.specs.declared.position.Position.{Position}
use Rattle.control_machine.specs.Left.{Beside, left_of, left_after, here_in, state_at}

-- where a thread stands in its run: between two turns, or before an element is entered at which elements nest that deep
pub data Place : Type 0 where
  between_turns : Place
  before_element : (depth number round : ℕ) → Place

abbrev pub left_at : Tree → Position → Place → State → Run Ending
left_at plan m between_turns s = left_of plan m s
left_at plan m (before_element depth number round) s = left_after plan m (meaning (here_in plan m) depth number round s)

-- The steps that are done have come to a place of the thread's run. Since then the variables are as they were, functions
-- stand at a later moment, and the outside has been asked for what is left at this place alone.
pub record IsCut (plan : Tree) (before : Account) (run : Beside → Run Ending) (after : Account) (new : UserState) : Type 0 where
  pub machine : Position
  pub place : Place
  pub between : UserState
  pub moment : Account
  pub goes : (beside : Beside) → Goes before (run beside) [] (left_at plan machine place (state_at machine beside between)) moment
  pub stands : StandsLater between new
  pub rest : (beside : Beside) → LeftOf moment (left_at plan machine place (state_at machine beside between)) after
