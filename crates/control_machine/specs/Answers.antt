-- What the innermost open element answers.
use Rattle.std.specs.Prelude.{◌≡◌, ◌<◌, List, ◌∷◌, Result}
use Rattle.jm_base.specs.Outside.{Account}
use Rattle.element_tree.specs.declared.package.Turn.{Turn}
use Rattle.element_tree.specs.Tree.{Tree}
use Rattle.thread_vars.specs.declared.error.VarError.{VarError}
use Rattle.var_functions.specs.declared.state.UserState.{UserState}
use Rattle.cursor_steps.specs.RunningChildren.{begun_after}
use Rattle.jm_meaning.specs.Beginning.{max_rounds}
use Rattle.open_elements.specs.declared.cursor.Cursor.{Cursor}
use Rattle.open_elements.specs.Answers.{CursorAnswers}
use Rattle.control_machine.specs.declared.stack.Frame.{Frame}
use Rattle.control_machine.specs.declared.position.Position.{Position}
use Rattle.control_machine.specs.Left.{StandsIn, IsOpen, IsApart, depth_in}

-- The innermost of the open elements has answered, in its place: its cursor has moved on.
pub record TopAnswers (plan : Tree) (before : Account) (f : Frame) (rest : List Frame) (state : UserState) (after : Account) (new : List Frame) (user : UserState) (result : Result Turn VarError) : Type 0 where
  pub cursor : Cursor
  pub stays : new ≡ record { element = f.element; round = f.round; depth = f.depth; cursor = cursor } ∷ rest
  pub answers : CursorAnswers plan f.round before f.cursor state after cursor user result

-- the same machine with these open elements
abbrev pub with_frames : Position → List Frame → Position
with_frames m frames = record m { stack = record { frames = frames } }

-- The innermost open element of a machine has answered so, and is to be followed: the machine stands in its plan without it, and
-- it is open inside the others, at a lower depth, with its rounds within what the answer leaves of the limit.
pub record HasAnswered (plan : Tree) (m : Position) (turn : Turn) (f : Frame) (rest : List Frame) : Type 0 where
  pub top : m.stack.frames ≡ f ∷ rest
  pub stands : StandsIn plan (with_frames m rest)
  pub open_ : IsOpen plan.elements (begun_after max_rounds turn) m.rounds f
  pub apart : IsApart plan.elements rest f
  pub falls : f.depth < depth_in rest
