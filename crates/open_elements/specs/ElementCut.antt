-- What stands where an open element was refused on its way.
use Rattle.std.specs.Prelude.{◌≡◌, ℕ, List}
use Rattle.element_tree.specs.declared.kinds.Element.{Element}
use Rattle.var_functions.specs.declared.state.UserState.{UserState}
use Rattle.jm_meaning.specs.State.{Own, state_of}
use Rattle.jm_meaning.specs.Children.{Below}
use Rattle.jm_meaning.specs.Cut.{StandsLater}
use Rattle.open_elements.specs.declared.cursor.Cursor.{Cursor}
use Rattle.open_elements.specs.Cursors.{cursor_left, shut_of}

-- An open element was refused on its way: it has opened the round that began last or not, and the variables are as that
-- has left them.
pub record IsCutIn (e : Element) (old : Cursor) (before new : UserState) : Type 0 where
  pub cursor : Cursor
  pub between : UserState
  pub shut : shut_of cursor ≡ shut_of old
  pub same : (below : Below) (round : ℕ) (children : List ℕ) (own : Own)
      → cursor_left below round children e old (state_of before own) ≡ cursor_left below round children e cursor (state_of between own)
  pub stands : StandsLater between new
