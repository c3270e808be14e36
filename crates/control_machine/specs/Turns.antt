-- What one turn of a machine comes to.
use Rattle.std.specs.Prelude.{◌≡◌, ◌⊎◌, ℕ, ◌+◌, ◌-◌, ◌*◌, ◌<◌, ◌≤◌, List, ◌∷◌, Option, Some, None, Bool, ◌&&◌, nat_lt, if◌then◌else◌, Result, IfOk, OnErr}
use Rattle.jm_base.specs.declared.types.End.TheVariants.{StopThread, StopTest}
use Rattle.jm_base.specs.Run.{Run}
use Rattle.jm_base.specs.Outside.{Account}
use Rattle.element_tree.specs.declared.kinds.Element.{Element}
use Rattle.element_tree.specs.declared.package.Turn.{Turn}
use Rattle.element_tree.specs.Tree.{Tree}
use Rattle.thread_vars.specs.declared.error.VarError.{VarError}
use Rattle.var_functions.specs.declared.state.UserState.{UserState}
use Rattle.var_functions.specs.Came.{CameTo}
use Rattle.var_functions.specs.FunctionState.{IsLater}
use Rattle.jm_meaning.specs.declared.signal.Signal.{Signal}
use Rattle.jm_meaning.specs.declared.signal.Signal.TheVariants.{Normal, NextLoop, Stop}
use Rattle.jm_meaning.specs.State.{State, Ending}
use Rattle.jm_meaning.specs.Children.{children_of}
use Rattle.jm_meaning.specs.Meaning.{meaning}
use Rattle.jm_meaning.specs.Sections.{leaving_open}
use Rattle.open_elements.specs.Moves.{turned, past}
use Rattle.open_elements.specs.Cursors.{cursor_left, round_in, Shut, Plain, Summing, Leaving, shut_of}
use Rattle.open_elements.specs.ChildrenLeft.{remaining, children_left}
use Rattle.control_machine.specs.declared.stack.Frame.{Frame}
use Rattle.control_machine.specs.declared.position.Group.{Group}
use Rattle.control_machine.specs.declared.position.Position.{Position}
use Rattle.control_machine.specs.declared.position.Went.{Went}
use Rattle.control_machine.specs.declared.position.Went.TheVariants.{On, To}
use Rattle.control_machine.specs.declared.moves.Move.{Move}
use Rattle.control_machine.specs.declared.moves.Move.TheVariants.{Iteration, RunSampler, EnterSection, LeaveSection, TransactionSample, Finished}
use Rattle.control_machine.specs.declared.moves.Leave.{Leave}
use Rattle.control_machine.specs.declared.moves.Leave.TheVariants as leaves
use Rattle.jm_meaning.specs.Transactions.{gives_sample}
use Rattle.control_machine.specs.Left.{Beside, StandsIn, left_of, left_in, left_after, closed, here_in, state_at, moved, IsMove, open_lock}
use Rattle.control_machine.specs.MachineCut.{IsCut}
use Rattle.control_machine.specs.Load.{children_count, scale, load, load_of}

-- what is left after a turn
abbrev pub went : Tree → Position → State → Went → Run Ending
went plan m s On = left_of plan m s
went plan m s (To move) = moved plan m s move

abbrev pub IsWent : List Element → Went → Type 0
IsWent elements On = Unit {0}
IsWent elements (To move) = IsMove elements move

-- what an element that is opened comes to: a section is entered
abbrev pub opening_move : Shut → Went
opening_move Plain = On
opening_move (Summing tally) = On
opening_move (Leaving lock) = To (EnterSection lock)

-- What an element that is left comes to: a transaction that has counted samples gives its own, where the signal is one that
-- gives samples, and a section is left.
abbrev pub closing_move : ℕ → Shut → Bool → Went
closing_move element Plain gives = On
closing_move element (Summing tally) gives = if gives && nat_lt 0 tally.samples then To (TransactionSample element tally) else On
closing_move element (Leaving lock) gives = To (LeaveSection lock)

abbrev pub closing_of : Signal → Frame → Went
closing_of signal f = closing_move f.element (shut_of f.cursor) (gives_sample signal)

-- a turn that goes on has lightened the load
abbrev pub Lightens : Went → ℕ → ℕ → Type 0
Lightens On old new = new < old
Lightens (To move) old new = Unit {0}

-- the signal of a way out
abbrev pub signal_left : Leave → Signal
signal_left leaves.NextLoop = NextLoop
signal_left leaves.StopThread = Stop StopThread
signal_left leaves.StopTest = Stop StopTest

-- what is left where this element is open inside the machine's
abbrev pub left_from : Tree → Position → Frame → Run Ending → Run Ending
left_from plan m f inner = left_in (here_in plan m) m.group (f ∷ m.stack.frames) inner

-- what is left where an element that was taken out of the open ones has answered
abbrev pub left_answered : Tree → Position → Frame → Element → Turn → State → Run Ending
left_answered plan m f e turn s =
    left_after plan m (closed (here_in plan m) f (turned (meaning (here_in plan m) f.depth) (round_in f.round f.cursor) (children_of plan.elements e)
    (cursor_left (meaning (here_in plan m) f.depth) f.round (children_of plan.elements e) e f.cursor) s turn))

-- the load of these open elements, in a machine
abbrev pub load_in : List Element → Position → List Frame → ℕ
load_in elements m frames = load (children_count elements) frames + (remaining m.group.pass + m.rounds) * scale (children_count elements) 31

-- the open elements where a child was opened at which elements nest that deep: one more of them, or none
abbrev pub IsOpened : List Element → ℕ → List Frame → List Frame → Type 0
IsOpened elements depth old new =
    (new ≡ old) ⊎ ((f : Frame) × (new ≡ f ∷ old) × (f.depth ≡ depth - 1) × (children_left f.cursor ≤ children_count elements))

-- the begin of a round of the group takes one of the rounds that are left, and no move gives one back
abbrev pub TakesRound : Move → ℕ → ℕ → Type 0
TakesRound (Iteration index) old new = new < old
TakesRound move old new = new ≤ old

abbrev pub IsRoundless : Went → ℕ → ℕ → Type 0
IsRoundless On old new = new ≤ old
IsRoundless (To move) old new = TakesRound move old new

-- a machine that is on no way out where it names a sampler or the begin of a round
abbrev pub IsNormalAt : Move → Signal → Type 0
IsNormalAt (Iteration index) signal = signal ≡ Normal
IsNormalAt (RunSampler number) signal = signal ≡ Normal
IsNormalAt move signal = Unit {0}

abbrev pub IsNormalOn : Went → Signal → Type 0
IsNormalOn On signal = Unit {0}
IsNormalOn (To move) signal = IsNormalAt move signal

-- a move that begins a round of the group names it by its index, from 0
abbrev pub IsRoundOf : Move → Group → Type 0
IsRoundOf (Iteration index) g = g.begun ≡ index + 1
IsRoundOf move g = Unit {0}

abbrev pub IsRoundIn : Went → Group → Type 0
IsRoundIn On g = Unit {0}
IsRoundIn (To move) g = IsRoundOf move g

-- what a move makes of the lock of the section that is open: a section is entered where none is open, the open one is left,
-- and at the end none is open
abbrev pub MovesLock : Move → Option ℕ → Option ℕ → Type 0
MovesLock (EnterSection lock) old new = (old ≡ None) × (new ≡ Some lock)
MovesLock (LeaveSection lock) old new = (old ≡ Some lock) × (new ≡ None)
MovesLock (Finished end) old new = (old ≡ None) × (new ≡ None)
MovesLock move old new = new ≡ old

abbrev pub MovesLockOn : Went → Option ℕ → Option ℕ → Type 0
MovesLockOn On old new = new ≡ old
MovesLockOn (To move) old new = MovesLock move old new

-- ---- a turn

-- what is left of a thread's rounds before a turn, by what is kept beside the machine
abbrev pub left_before : Tree → Position → UserState → Beside → Run Ending
left_before plan m user beside = left_of plan m (state_at m beside user)

-- Between two moments of the outside a machine came from this run to what is left after its turn; or past a limit, where the
-- section of this lock is left. Where it was refused, it was cut on its way.
pub record Turns (plan : Tree) (before : Account) (run : Beside → Run Ending) (section : Option ℕ) (after : Account) (new : Position) (user : UserState) (result : Result Went VarError) : Type 0 where
  pub came : (beside : Beside) → CameTo before (run beside) after (went plan new (state_at new beside user)) (leaving_open section (past (state_at new beside user))) result
  pub cut : OnErr result (IsCut plan before run after user)

-- A machine after a turn that was not refused: it stands in its plan, and so does what it names; it is on no way out where it
-- names a sampler or the begin of a round; the section that is open is the one that the move leaves open; no round is given
-- back, and a round that begins is named by its index. Before the turn this many rounds were left, and this section was open.
pub record TakesTurn (plan : Tree) (left : ℕ) (section : Option ℕ) (new : Position) (w : Went) : Type 0 where
  pub given : IsWent plan.elements w
  pub stands : StandsIn plan new
  pub normal : IsNormalOn w new.signal
  pub lock : MovesLockOn w section (open_lock new.stack.frames)
  pub rounds : IsRoundless w left new.rounds
  pub index : IsRoundIn w new.group

-- the same thread: its group, and what a failed sample leads to
abbrev pub SameThread : Position → Position → Type 0
SameThread old new = (new.group.element ≡ old.group.element) × (new.at_failure ≡ old.at_failure)

-- the same but for the open elements and the places of the Interleave Controllers
pub record SameRest (old new : Position) : Type 0 where
  pub group : new.group ≡ old.group
  pub rounds : new.rounds ≡ old.rounds
  pub failure : new.at_failure ≡ old.at_failure
  pub signal : new.signal ≡ old.signal
  pub links : new.links ≡ old.links

-- A turn of a machine, between two moments of the outside: what is left has come to what is left after it, and where it is not
-- refused the machine stands so and its load is lighter, or it names a move. After every answer the thread is the same, and
-- functions stand at a later moment, out of memory too.
pub record TurnsOn (plan : Tree) (before : Account) (old : Position) (state : UserState) (after : Account) (new : Position) (user : UserState) (result : Result Went VarError) : Type 0 where
  pub turns : Turns plan before (left_before plan old state) (open_lock old.stack.frames) after new user result
  pub lighter : IfOk result (λ w. Lightens w (load_of plan.elements old) (load_of plan.elements new))
  pub goes : IfOk result (TakesTurn plan old.rounds (open_lock old.stack.frames) new)
  pub thread : SameThread old new
  pub later : IsLater state.fns user.fns

-- On a way out: what was left is what is left after this, and the machine stands so.
pub record LeavesOn (plan : Tree) (old new : Position) (w : Went) : Type 0 where
  pub same : (beside : Beside) (user : UserState) → left_of plan old (state_at old beside user) ≡ went plan new (state_at new beside user) w
  pub goes : TakesTurn plan old.rounds (open_lock old.stack.frames) new w
