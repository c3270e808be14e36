-- What is left of an open element, by its cursor.
use Rattle.std.specs.Prelude.{◌≡◌, ℕ, ◌-◌, ◌<◌, ◌≤◌, Bool, true, false, List, [], ◌∷◌, length, map, drop, Option, Some, slice_get, IfSome}
use Rattle.jm_base.specs.Run.{over}
use Rattle.template_text.specs.Pieces.{Pieces}
use Rattle.element_tree.specs.declared.kinds.Element.{Element}
use Rattle.element_tree.specs.declared.kinds.Kind.{Kind}
use Rattle.element_tree.specs.declared.kinds.Kind.TheVariants as kinds
use Rattle.logic_controllers.specs.declared.rounds.Rounds.{Rounds}
use Rattle.logic_controllers.specs.declared.simple_cursor.SimpleCursor.{SimpleCursor}
use Rattle.logic_controllers.specs.declared.once_cursor.OnceCursor.{OnceCursor}
use Rattle.logic_controllers.specs.declared.loop_cursor.LoopCursor.{LoopCursor}
use Rattle.logic_controllers.specs.declared.if_cursor.IfCursor.{IfCursor}
use Rattle.logic_controllers.specs.declared.while_cursor.WhileCursor.{WhileCursor}
use Rattle.logic_controllers.specs.declared.each_cursor.EachCursor.{EachCursor}
use Rattle.choice_controllers.specs.declared.interleave_cursor.InterleaveCursor.{InterleaveCursor}
use Rattle.choice_controllers.specs.declared.random_cursor.RandomCursor.{RandomCursor}
use Rattle.choice_controllers.specs.declared.order_cursor.OrderCursor.{OrderCursor}
use Rattle.choice_controllers.specs.declared.switch_cursor.SwitchCursor.{SwitchCursor}
use Rattle.choice_controllers.specs.RandomOrderController.{order_of}
use Rattle.logic_controllers.specs.ControllerRounds.{opened_vars}
use Rattle.logic_controllers.specs.ForEachController.{Row, kind_of, output_vars}
use Rattle.jm_meaning.specs.State.{Part, normal, and_then, with_vars, text}
use Rattle.jm_meaning.specs.Rounds.{Turns, rounds, loop_turns, while_turns, each_turns}
use Rattle.jm_meaning.specs.Children.{Below, in_order, one_of, once_only, if_each}
use Rattle.jm_meaning.specs.Choices.{chosen}
use Rattle.jm_meaning.specs.declared.transaction.Tally.{Tally}
use Rattle.jm_meaning.specs.Beginning.{max_rounds}
use Rattle.open_elements.specs.declared.cursor.Cursor.{Cursor}
use Rattle.open_elements.specs.declared.cursor.Cursor.TheVariants.{Simple, Once, Loop, If, While, Each, Interleave, Random, Order, Switch, Transaction, Section}
use Rattle.open_elements.specs.Moves.{pass_left}

abbrev pub simple_left : Below → ℕ → List ℕ → SimpleCursor → Part
simple_left below round children c = in_order below round (pass_left c.pass children)

abbrev pub once_left : Below → ℕ → List ℕ → OnceCursor → Part
once_left below round children c = once_only below round (pass_left c.pass children)

abbrev pub if_left : Bool → Pieces → Below → ℕ → List ℕ → IfCursor → Part
if_left true condition below round children c = if_each below round (pass_left c.pass children) (text condition)
if_left false condition below round children c = in_order below round (pass_left c.pass children)

-- the children that are left in this round, and the rounds after it
abbrev pub round_left : {X : Type 0} → Turns X → Below → List ℕ → Rounds → Part
round_left turns below children r s =
    and_then (in_order below (r.begun - 1) (pass_left r.pass children) s)
    (rounds (max_rounds - r.begun) turns (λ i. in_order below i children) r.begun)

-- the same after the index variable, where that is still to be set
abbrev pub turning_left : {X : Type 0} → List ℕ → Turns X → Below → List ℕ → Rounds → Part
turning_left name turns below children r s =
    and_then (with_vars (opened_vars name r s.user.vars) s) (round_left turns below children r)

abbrev pub loop_left : List ℕ → Below → List ℕ → LoopCursor → Part
loop_left name below children c = turning_left name (loop_turns name c.loops) below children c.rounds

abbrev pub while_left : List ℕ → Pieces → Below → List ℕ → WhileCursor → Part
while_left name condition below children c = turning_left name (while_turns name condition) below children c.rounds

-- after the index variable the kept value goes to the output
abbrev pub each_left : List ℕ → Row → List ℕ → Below → List ℕ → EachCursor → Part
each_left name row output below children c s =
    and_then (with_vars (opened_vars name c.rounds s.user.vars) s) (λ s.
    and_then (with_vars (output_vars output c.value s.user.vars) s) (round_left (each_turns name row output) below children c.rounds))

-- the child that was chosen, where it is still to be run
abbrev pub interleave_left : Below → ℕ → List ℕ → InterleaveCursor → Part
interleave_left below round children c = chosen below round children c.chosen

abbrev pub random_left : Below → ℕ → List ℕ → RandomCursor → Part
random_left below round children c = chosen below round children c.chosen

abbrev pub switch_left : Below → ℕ → List ℕ → SwitchCursor → Part
switch_left below round children c = chosen below round children c.chosen

-- each of them, where it is there, one after another
abbrev pub each_of : Below → ℕ → List (Option ℕ) → Part
each_of below round [] s = over (normal s)
each_of below round (o ∷ os) s = and_then (one_of below round o s) (each_of below round os)

-- the children at the places that are left of the order
abbrev pub order_left : Below → ℕ → List ℕ → OrderCursor → Part
order_left below round children c = each_of below round (map (slice_get children) (drop c.next (order_of c)))

-- ---- a cursor of any kind, at an element of its kind

abbrev pub if_left_in : Kind → Below → ℕ → List ℕ → IfCursor → Part
if_left_in (kinds.If all condition) below round children c s = if_left all condition below round children c s
if_left_in kind below round children c s = over (normal s)

abbrev pub while_left_in : Kind → List ℕ → Below → List ℕ → WhileCursor → Part
while_left_in (kinds.While condition) name below children c s = while_left name condition below children c s
while_left_in kind name below children c s = over (normal s)

abbrev pub each_left_in : Kind → List ℕ → Below → List ℕ → EachCursor → Part
each_left_in (kinds.ForEach end input output separator start) name below children c s =
    each_left name (record { input = input; separator = separator; start = start; end = end }) output below children c s
each_left_in kind name below children c s = over (normal s)

-- what is left by the cursor of an element of this name and kind, with these children that run
abbrev pub cursor_left : Below → ℕ → List ℕ → Element → Cursor → Part
cursor_left below round children e (Simple c) = simple_left below round children c
cursor_left below round children e (Once c) = once_left below round children c
cursor_left below round children e (Loop c) = loop_left e.name below children c
cursor_left below round children e (If c) = if_left_in e.kind below round children c
cursor_left below round children e (While c) = while_left_in e.kind e.name below children c
cursor_left below round children e (Each c) = each_left_in e.kind e.name below children c
cursor_left below round children e (Interleave c) = interleave_left below round children c
cursor_left below round children e (Random c) = random_left below round children c
cursor_left below round children e (Order c) = order_left below round children c
cursor_left below round children e (Switch c) = switch_left below round children c
cursor_left below round children e (Transaction c) = simple_left below round children c.children
cursor_left below round children e (Section c) = simple_left below round children c.children

-- what comes when an element is left: nothing, the sample of a transaction that has counted this, or that the section of a
-- lock is left
pub data Shut : Type 0 where
  Plain : Shut
  Summing : Tally → Shut
  Leaving : ℕ → Shut

abbrev pub shut_of : Cursor → Shut
shut_of (Transaction c) = Summing c.tally
shut_of (Section c) = Leaving c.lock
shut_of c = Plain

-- the lock of the section that is open, where this is inside the element or is the section itself
abbrev pub lock_in : Shut → Option ℕ → Option ℕ
lock_in Plain outer = outer
lock_in (Summing tally) outer = outer
lock_in (Leaving lock) outer = Some lock

-- how many rounds have begun
abbrev pub begun_of : Cursor → ℕ
begun_of (Simple c) = 0
begun_of (Once c) = 0
begun_of (Loop c) = c.rounds.begun
begun_of (If c) = 0
begun_of (While c) = c.rounds.begun
begun_of (Each c) = c.rounds.begun
begun_of (Interleave c) = 0
begun_of (Random c) = 0
begun_of (Order c) = 0
begun_of (Switch c) = 0
begun_of (Transaction c) = 0
begun_of (Section c) = 0

-- the round that the children are in, from 0: that of the element itself where it has rounds
abbrev pub round_in : ℕ → Cursor → ℕ
round_in round (Simple c) = round
round_in round (Once c) = round
round_in round (Loop c) = c.rounds.begun - 1
round_in round (If c) = round
round_in round (While c) = c.rounds.begun - 1
round_in round (Each c) = c.rounds.begun - 1
round_in round (Interleave c) = round
round_in round (Random c) = round
round_in round (Order c) = round
round_in round (Switch c) = round
round_in round (Transaction c) = round
round_in round (Section c) = round

-- A cursor stands at the element of this number, which is of its kind and has that many children that run.
abbrev pub FitsKind : ℕ → ℕ → Kind → Cursor → Type 0
FitsKind n count k (Simple c) = (c.element ≡ n) × (k ≡ kinds.Simple) × (c.pass.children ≤ count)
FitsKind n count k (Once c) = (c.element ≡ n) × (k ≡ kinds.OnceOnly) × (c.pass.children ≤ count)
FitsKind n count k (Loop c) = (c.element ≡ n) × ((t : Pieces) × (k ≡ kinds.Loop t)) × (c.rounds.pass.children ≡ count)
FitsKind n count k (If c) = (c.element ≡ n) × ((all : Bool) × (t : Pieces) × (k ≡ kinds.If all t)) × (c.pass.children ≤ count)
FitsKind n count k (While c) = (c.element ≡ n) × ((t : Pieces) × (k ≡ kinds.While t)) × (c.rounds.pass.children ≡ count)
FitsKind n count k (Each c) = (c.element ≡ n) × ((row : Row) × (output : List ℕ) × (k ≡ kind_of row output)) × (c.rounds.pass.children ≡ count)
FitsKind n count k (Interleave c) = (c.element ≡ n) × (k ≡ kinds.Interleave) × IfSome c.chosen (λ place. place < count)
FitsKind n count k (Random c) = (c.element ≡ n) × (k ≡ kinds.Random) × IfSome c.chosen (λ place. place < count)
FitsKind n count k (Order c) = (c.element ≡ n) × (k ≡ kinds.RandomOrder) × (length (order_of c) ≤ count)
FitsKind n count k (Switch c) = (c.element ≡ n) × ((t : Pieces) × (k ≡ kinds.Switch t)) × IfSome c.chosen (λ place. place < count)
FitsKind n count k (Transaction c) = (c.children.element ≡ n) × (k ≡ kinds.Transaction) × (c.children.pass.children ≤ count)
FitsKind n count k (Section c) = (c.children.element ≡ n) × ((name : List ℕ) × (k ≡ kinds.CriticalSection name)) × (c.children.pass.children ≤ count)
