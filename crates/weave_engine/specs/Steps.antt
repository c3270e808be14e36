-- A thread as the list of its events, known before the first turn and cut into steps; and what a thread owes.
use Rattle.std.specs.Prelude.{ℕ, Bool, true, false, List, [], ◌∷◌, ◌++◌, Option, Some, None}
use Rattle.jm_base.specs.declared.types.Entry.{Entry}
use Rattle.jm_base.specs.declared.types.Sample.{Sample}
use Rattle.jm_base.specs.declared.types.End.{End}
use Rattle.jm_base.specs.declared.types.End.TheVariants.{StopTest, Stopped}
use Rattle.jm_base.specs.Run.{Event, Waited, Sampled, Nothing, Entered, Left, Ended}
use Rattle.phaser_core.specs.declared.view.Event.{Event as CoreEvent}
use Rattle.phaser_core.specs.declared.view.Event.TheVariants.{Enter as EnterPhase, Load, Add, Lower, Raise, Exit}
use Rattle.thread_machine.specs.declared.trace.TraceItem.{TraceItem}
use Rattle.thread_machine.specs.declared.trace.TraceItem.TheVariants.{Paused as PausedItem, Null as NullItem, Left as LeftItem, Ended as EndedItem}
use Rattle.thread_machine.specs.Stepped.{entry_of}

-- Steps

-- a pause belongs to the step of the event after it
abbrev pub before_first : Event → List (List Event) → List (List Event)
before_first e [] = (e ∷ []) ∷ []
before_first e (step ∷ steps) = (e ∷ step) ∷ steps

abbrev pub cut_at : Event → List (List Event) → List (List Event)
cut_at (Waited ms) steps = before_first (Waited ms) steps
cut_at e steps = (e ∷ []) ∷ steps

-- The events cut into steps: each is one event that is no pause, after the pauses before it.
abbrev pub steps_of : List Event → List (List Event)
steps_of [] = []
steps_of (e ∷ events) = cut_at e (steps_of events)

-- What a thread owes

-- The steps of the recorder that are left of a sample's record, with the interval that its load found; a section that is to
-- be entered; a stop that is to be raised.
pub data Owed : Type 0 where
  Nought : Owed
  Record : Sample → ℕ → List CoreEvent → Owed
  Section : ℕ → Owed
  Stop : Owed

-- a failed one adds to the errors besides
abbrev pub error_adds : ℕ → Bool → List CoreEvent
error_adds writer true = []
error_adds writer false = Add writer ∷ []

-- the steps of the record of an entry, at most nine
abbrev pub record_steps : ℕ → Entry → List CoreEvent
record_steps writer e =
    EnterPhase writer ∷ Load writer e ∷ Add writer ∷ Add writer ∷ Add writer ∷ (error_adds writer e.ok ++ Lower writer ∷ Raise writer ∷ Exit writer ∷ [])

-- A thread

-- Its steps that are still to come, its trace so far, what it owes, and the lock of its open section.
-- It has ended where no step is to come.
pub record Thread : Type 0 where
  pub ahead : List (List Event)
  pub trace : List TraceItem
  pub owed : Owed
  pub open_lock : Option ℕ

-- a thread before the first turn
abbrev pub thread_with : List Event → Thread
thread_with events = record { ahead = steps_of events; trace = []; owed = Nought; open_lock = None }

abbrev pub shows : TraceItem → Thread → Thread
shows item t = record { ahead = t.ahead; trace = t.trace ++ item ∷ []; owed = t.owed; open_lock = t.open_lock }

abbrev pub owes : Owed → Thread → Thread
owes owed t = record { ahead = t.ahead; trace = t.trace; owed = owed; open_lock = t.open_lock }

abbrev pub opens : Option ℕ → Thread → Thread
opens lock t = record { ahead = t.ahead; trace = t.trace; owed = t.owed; open_lock = lock }

-- after its end a thread has a stop to raise, where its failed sample ends the test
abbrev pub owed_at_end : End → Owed
owed_at_end StopTest = Stop
owed_at_end end = Nought

-- An event happens to the thread that writes as this writer. A sample is to be recorded before the trace shows it, and a
-- section is to be entered.
abbrev pub happens : ℕ → Event → Thread → Thread
happens writer (Waited ms) t = shows (PausedItem ms) t
happens writer (Sampled giver sample) t = owes (Record sample 0 (record_steps writer (entry_of sample))) t
happens writer (Nothing sampler) t = shows (NullItem sampler) t
happens writer (Entered lock) t = owes (Section lock) t
happens writer (Left lock) t = opens None (shows (LeftItem lock) t)
happens writer (Ended end) t = owes (owed_at_end end) (shows (EndedItem end) t)

abbrev pub all_happen : ℕ → List Event → Thread → Thread
all_happen writer [] t = t
all_happen writer (e ∷ events) t = all_happen writer events (happens writer e t)

abbrev pub left_items : Option ℕ → List TraceItem
left_items None = []
left_items (Some lock) = LeftItem lock ∷ []

-- A thread that has seen stop: the rest of its list is replaced by leaving an open section and by its end.
abbrev pub stopped : Thread → Thread
stopped t = record { ahead = []; trace = t.trace ++ (left_items t.open_lock ++ EndedItem Stopped ∷ []); owed = Nought; open_lock = None }
