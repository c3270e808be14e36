-- What an open element answers, and what is left after the answer.
use Rattle.std.specs.Prelude.{ℕ, List, drop, take, Some, None, slice_get}
use Rattle.jm_base.specs.declared.types.End.TheVariants.{ValueLimit}
use Rattle.jm_base.specs.Run.{Run, over, ◌>>=◌}
use Rattle.element_tree.specs.declared.package.Turn.{Turn}
use Rattle.element_tree.specs.declared.package.Turn.TheVariants.{Child, Round, Over}
use Rattle.cursor_steps.specs.declared.pass.Pass.{Pass}
use Rattle.cursor_steps.specs.CursorStep.{Step}
use Rattle.jm_meaning.specs.State.{State, Own, Ending, Part, state_of, normal, stopped, and_then, with_round}
use Rattle.jm_meaning.specs.Children.{Below, one_of}

-- the end by ValueLimit
abbrev pub past : State → Run Ending
past s = over (stopped ValueLimit s)

-- the children that are left in a pass
abbrev pub pass_left : Pass → List ℕ → List ℕ
pass_left p children = drop p.next (take p.children children)

-- after the answer: a child and what is left after it, a round that is taken and what is left then, or nothing
abbrev pub turned : Below → ℕ → List ℕ → Part → State → Turn → Run Ending
turned below round children left s (Child place) = and_then (one_of below round (slice_get children place) s) left
turned below round children left s Round = with_round s left
turned below round children left s Over = over (normal s)

-- how a cursor's step goes on, where this is left by the cursor
abbrev pub stepped : {C : Type 0} → Below → (C → ℕ) → List ℕ → (C → Part) → Own → Step Turn C → Run Ending
stepped below round children left own step = elim step.answer [
  | None ↦ past (state_of step.state own)
  | Some turn ↦ turned below (round step.cursor) children (left step.cursor) (state_of step.state own) turn
]

-- the same where an element is entered
abbrev pub begun : {C : Type 0} → (C → Part) → Own → Step (Unit {0}) C → Run Ending
begun left own step = elim step.answer [
  | None ↦ past (state_of step.state own)
  | Some u ↦ left step.cursor (state_of step.state own)
]

-- a call of a cursor, and what is left after it
abbrev pub stepping : {C : Type 0} → Below → (C → ℕ) → List ℕ → (C → Part) → Own → Run (Step Turn C) → Run Ending
stepping below round children left own call = call >>= stepped below round children left own

-- the same where an element is entered
abbrev pub beginning : {C : Type 0} → (C → Part) → Own → Run (Step (Unit {0}) C) → Run Ending
beginning left own call = call >>= begun left own
