-- What the parts of a step say of a worker's fields.
use Rattle.std.specs.Prelude.{◌≡◌, ℕ, ◌≤◌, Bool, true, false, List, [], ◌∷◌, ◌++◌, Option, Some, None}
use Rattle.jm_base.specs.declared.types.End.{End}
use Rattle.jm_base.specs.Run.{Run}
use Rattle.jm_base.specs.Outside.{Account, Goes}
use Rattle.thread_vars.specs.declared.error.VarError.{VarError}
use Rattle.var_functions.specs.Came.{Refused}
use Rattle.element_tree.specs.declared.kinds.Element.{Element}
use Rattle.jm_meaning.specs.State.{State, Ending}
use Rattle.open_elements.specs.Moves.{past}
use Rattle.control_machine.specs.declared.moves.Move.{Move}
use Rattle.control_machine.specs.declared.moves.Move.TheVariants.{Iteration, RunSampler, EnterSection, LeaveSection, TransactionSample, Finished}
use Rattle.jm_meaning.specs.Sections.{leaving_open}
use Rattle.control_machine.specs.Left.{StandsIn, IsSampler, IsTransaction, IsLock, IsFinish, open_lock}
use Rattle.control_machine.specs.Turns.{IsNormalAt, MovesLock}
use Rattle.control_machine.specs.declared.position.Position.{Position}
use Rattle.config_elements.specs.RoundStart.{Config, feeds_of}
use Rattle.element_tree.specs.Tree.{Tree}
use Rattle.thread_machine.specs.declared.runner.Runner.{Runner}
use Rattle.thread_machine.specs.declared.step.Step.{Step}
use Rattle.thread_machine.specs.declared.step.Step.TheVariants.{Sampled, Null, Enter, Leave, Ended}
use Rattle.thread_machine.specs.Standing.{rest, part_left}
use Rattle.thread_machine.specs.Stepped.{Begins}
use Rattle.thread_machine.specs.declared.trace.TraceItem.TheVariants.{Left as LeftItem, Ended as EndedItem}
use Rattle.thread_machine.specs.Inside.{standing_of, HasSettled, GoesOn}

abbrev pub is_end : Step → Bool
is_end (Sampled entry) = false
is_end Null = false
is_end (Enter lock) = false
is_end (Leave lock) = false
is_end (Ended end) = true

-- the moves that end a step: a sampler runs, a transaction gives its sample, a section is entered or left, or the thread's
-- rounds are over
abbrev pub IsTaken : List Element → Move → Type 0
IsTaken elements (Iteration index) = ⊥
IsTaken elements (RunSampler number) = IsSampler elements number
IsTaken elements (EnterSection lock) = IsLock elements lock
IsTaken elements (LeaveSection lock) = IsLock elements lock
IsTaken elements (TransactionSample element tally) = IsTransaction elements element
IsTaken elements (Finished end) = IsFinish end

-- A move that ends a step has been made by a thread that had this section open: its machine stands in the plan and has moved
-- the lock as the move says, and what the thread keeps of Counters and data sets is of the same group.
pub record HasMoved (plan : Tree) (section : Option ℕ) (machine : Position) (config : Config) (move : Move) : Type 0 where
  pub given : IsTaken plan.elements move
  pub stands : StandsIn plan machine
  pub lock : MovesLock move section (open_lock machine.stack.frames)
  pub normal : IsNormalAt move machine.signal
  pub feeds : config.feeds ≡ feeds_of plan.elements machine.group.element

-- what is left of a thread's part of the plan
abbrev pub left_to : Runner → Run Ending
left_to r = part_left (standing_of r false)

-- the plan and the thread of a worker stay, the pause that is still to come, what is owed, the open section and the end that
-- comes next, and no unit comes to those left
pub record IsSameThread (old new : Runner) : Type 0 where
  pub plan : new.plan.now ≡ old.plan.now
  pub thread : new.thread ≡ old.thread
  pub pause : new.pause ≡ old.pause
  pub owed : new.owed ≡ old.owed
  pub entering : new.entering ≡ old.entering
  pub section : new.section ≡ old.section
  pub last : new.last ≡ old.last
  pub fewer : new.units ≤ old.units

-- The run was refused on its way: past a limit, before which the open section is left, or cut, out of memory. The trace
-- stays, and what is owed to it.
pub record IsRefusedAt (before : Account) (run : Run Ending) (after : Account) (old new : Runner) (error : VarError) : Type 0 where
  pub state : State
  pub refused : Refused before run after (leaving_open old.section (past state)) error
  pub same : IsSameThread old new
  pub trace : new.trace ≡ old.trace

-- nothing was given, and the run was cut somewhere on its way
pub record IsCutAt (before after : Account) (old new : Runner) : Type 0 where
  pub left : Run (Unit {0})
  pub goes : Goes before (rest (standing_of old false)) [] left after
  pub same : IsSameThread old new
  pub items : new.trace.items ≡ old.trace.items

-- the pause before the first variables, which belongs to the worker
pub record IsBegun (before after : Account) (old new : Runner) : Type 0 where
  pub begins : Begins before after (standing_of old false) (standing_of new false)
  pub kept : new ≡ record old { pause = 0; trace = new.trace }

-- the run was cut before the pause or after it
pub record IsCutAfter (before after : Account) (old new : Runner) : Type 0 where
  pub begun : Account
  pub between : Runner
  pub begins : Begins before begun (standing_of old false) (standing_of between false)
  pub cut : IsCutAt begun after between new

-- where the thread has not ended it goes on
abbrev pub GoesOnAfter : Runner → Step → Type 0
GoesOnAfter r (Sampled entry) = GoesOn r
GoesOnAfter r Null = GoesOn r
GoesOnAfter r (Enter lock) = GoesOn r
GoesOnAfter r (Leave lock) = GoesOn r
GoesOnAfter r (Ended end) = HasSettled r

-- A thread that a limit ends: where a section is open it is left, and the end comes next; otherwise the thread has ended.
abbrev pub EndsBy : Option ℕ → Runner → Runner → End → Step → Type 0
EndsBy None old new end step =
    (step ≡ Ended end) × (new.trace.items ≡ old.trace.items ++ EndedItem end ∷ []) × (new ≡ record old { trace = new.trace })
EndsBy (Some lock) old new end step =
    (step ≡ Leave lock) × (new.trace.items ≡ old.trace.items ++ LeftItem lock ∷ []) × (new ≡ record old { section = None; last = Some end; trace = new.trace })
