-- What an open element answers.
use Rattle.std.specs.Prelude.{◌≡◌, ℕ, ◌+◌, ◌≤◌, length, Some, Result, IfOk, OnErr, slice_get}
use Rattle.jm_base.specs.Outside.{Account}
use Rattle.element_tree.specs.declared.kinds.Element.{Element}
use Rattle.element_tree.specs.declared.package.Turn.{Turn}
use Rattle.element_tree.specs.Tree.{Tree}
use Rattle.thread_vars.specs.declared.error.VarError.{VarError}
use Rattle.var_functions.specs.declared.state.UserState.{UserState}
use Rattle.var_functions.specs.Came.{CameTo}
use Rattle.cursor_steps.specs.RunningChildren.{begun_after, TakesChild}
use Rattle.jm_meaning.specs.State.{Own, state_of}
use Rattle.jm_meaning.specs.Children.{Below, children_of}
use Rattle.jm_meaning.specs.Beginning.{max_rounds}
use Rattle.open_elements.specs.declared.cursor.Cursor.{Cursor}
use Rattle.open_elements.specs.Moves.{turned, past}
use Rattle.open_elements.specs.Cursors.{cursor_left, shut_of, begun_of, round_in, FitsKind}
use Rattle.open_elements.specs.ChildrenLeft.{children_left}
use Rattle.open_elements.specs.ElementCut.{IsCutIn}

-- A cursor stands at the element of this number, and its rounds are within the limit.
pub record StandsAt (plan : Tree) (number : ℕ) (c : Cursor) : Type 0 where
  pub element : Element
  pub there : slice_get plan.elements number ≡ Some element
  pub fits : FitsKind number (length (children_of plan.elements element)) element.kind c
  pub begun : begun_of c ≤ max_rounds

-- A cursor has answered what its element does next, between two moments of the outside: what was left is what is left after
-- the answer, whatever the elements below mean. It is still a cursor of its element, of a section or a transaction as before.
-- Its rounds go by the answer, and a child that comes next is taken from its pass. Where it was refused it was cut on its way.
pub record CursorAnswers (plan : Tree) (round : ℕ) (before : Account) (old : Cursor) (state : UserState) (after : Account) (new : Cursor) (user : UserState) (result : Result Turn VarError) : Type 0 where
  pub came : (e : Element) (n : ℕ) (below : Below) (own : Own) → slice_get plan.elements n ≡ Some e
      → FitsKind n (length (children_of plan.elements e)) e.kind old → begun_of old + own.rounds ≤ max_rounds
      → CameTo before (cursor_left below round (children_of plan.elements e) e old (state_of state own)) after
      (turned below (round_in round new) (children_of plan.elements e) (cursor_left below round (children_of plan.elements e) e new) (state_of user own))
      (past (state_of user own)) result
  pub begun : IfOk result (λ turn. begun_of new ≤ begun_after (begun_of old) turn)
  pub pass : IfOk result (TakesChild (children_left old) (children_left new))
  pub shut : shut_of new ≡ shut_of old
  pub fits : (e : Element) (n : ℕ) → slice_get plan.elements n ≡ Some e
      → FitsKind n (length (children_of plan.elements e)) e.kind old → FitsKind n (length (children_of plan.elements e)) e.kind new
  pub cut : (e : Element) (n : ℕ) → slice_get plan.elements n ≡ Some e
      → FitsKind n (length (children_of plan.elements e)) e.kind old → OnErr result (IsCutIn e old state user)
