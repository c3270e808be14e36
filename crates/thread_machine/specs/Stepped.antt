-- What one step of a thread does.
use Rattle.std.specs.Prelude.{◌≡◌, ◌⊎◌, ℕ, zero, suc, ◌-◌, ◌<◌, ◌≤◌, true, List, [], ◌∷◌, ◌++◌, Some, None, slice_get}
use Rattle.jm_base.specs.declared.types.Entry.{Entry}
use Rattle.jm_base.specs.declared.types.Sample.{Sample}
use Rattle.jm_base.specs.declared.types.End.{End}
use Rattle.jm_base.specs.declared.types.End.TheVariants.{Stopped, NoMemory}
use Rattle.jm_base.specs.Run.{Run, over, give, Event, Waited, Sampled, Nothing, Entered, Left, Ended, Giver, Sampler, Transaction}
use Rattle.jm_base.specs.Outside.{Account, Goes}
use Rattle.element_tree.specs.declared.kinds.Element.{Element}
use Rattle.element_tree.specs.declared.kinds.Kind.{Kind}
use Rattle.element_tree.specs.declared.kinds.Kind.TheVariants as kinds
use Rattle.element_tree.specs.declared.types.Class.TheVariants as classes
use Rattle.element_tree.specs.Types.{class_of}
use Rattle.element_tree.specs.Tree.{Tree}
use Rattle.element_tree.specs.Names.{label_of}
use Rattle.thread_machine.specs.declared.trace.TraceItem.{TraceItem}
use Rattle.thread_machine.specs.declared.trace.TraceItem.TheVariants.{Paused as PausedItem, Null as NullItem, Left as LeftItem, Ended as EndedItem}
use Rattle.thread_machine.specs.declared.step.Step.{Step}
use Rattle.thread_machine.specs.declared.step.Step.TheVariants.{Sampled as SampledStep, Null as NullStep, Enter, Leave, Ended as EndedStep}
use Rattle.control_machine.specs.Left.{IsLock}
use Rattle.thread_machine.specs.SectionOrder.{left_traced}
use Rattle.thread_machine.specs.Standing.{Standing, rest}

-- what a recorder counts of a sample
abbrev pub entry_of : Sample → Entry
entry_of s = record { label = s.label; ok = s.ok; elapsed = s.elapsed; bytes = s.bytes }

-- The pause before the first variables has been made and is in the trace.
pub record HasPaused (before after : Account) (old new : Standing) : Type 0 where
  pub goes : Goes before (rest old) (Waited old.pause ∷ []) (rest new) after
  pub heard : Goes before (rest old) [] (give (Waited old.pause) (rest new)) after
  pub new_is : new ≡ record old { pause = 0; trace = old.trace ++ PausedItem old.pause ∷ [] }

-- nothing has happened yet
pub record IsStill (before after : Account) (old new : Standing) : Type 0 where
  pub account : after ≡ before
  pub standing : new ≡ old

-- the pause before the first variables has been made, or nothing has happened yet
abbrev pub Begins : Account → Account → Standing → Standing → Type 0
Begins before after old new = HasPaused before after old new ⊎ IsStill before after old new

-- elements of this kind give such samples
abbrev pub IsKindOf : Giver → Kind → Type 0
IsKindOf Sampler kind = class_of kind ≡ classes.Sampler
IsKindOf Transaction kind = kind ≡ kinds.Transaction

-- the number is that of a sampler, or of a transaction, of the plan, and this is its label
pub record IsGiver (giver : Giver) (plan : Tree) (number label : ℕ) : Type 0 where
  pub element : Element
  pub there : slice_get plan.elements number ≡ Some element
  pub kind_is : IsKindOf giver element.kind
  pub label_is : label ≡ label_of plan.elements element.name

-- a trace with a pause of that many milliseconds, if it was any
abbrev pub trace_paused : List TraceItem → ℕ → List TraceItem
trace_paused trace zero = trace
trace_paused trace (suc ms) = trace ++ PausedItem (suc ms) ∷ []

-- events after a pause, if it was any
abbrev pub events_paused : ℕ → List Event → List Event
events_paused zero events = events
events_paused (suc ms) events = Waited (suc ms) ∷ events

-- the events of a pause, if it was any
abbrev pub events_waited : ℕ → List Event
events_waited zero = []
events_waited (suc ms) = Waited (suc ms) ∷ []

-- A sampler or a transaction of the plan has used a unit and given a sample, which is owed to the trace. The pause of its
-- timers is in the trace.
pub record GivesSample (before after : Account) (run : Run (Unit {0})) (old new : Standing) (entry : Entry) : Type 0 where
  pub giver : Giver
  pub sample : Sample
  pub number : ℕ
  pub given_by : IsGiver giver old.plan number sample.label
  pub paused : ℕ
  pub goes : Goes before run (events_paused paused (Sampled giver sample ∷ [])) (rest new) after
  pub heard : Goes before run (events_waited paused) (give (Sampled giver sample) (rest new)) after
  pub entry_is : entry ≡ entry_of sample
  pub unit : 0 < old.units
  pub new_is : new ≡ record old { begun = true; user = new.user; units = old.units - 1; config = new.config; machine = new.machine; owed = Some sample; trace = trace_paused old.trace paused }

-- a sampler of the plan has used a unit and given none, and the trace says so
pub record GivesNone (before after : Account) (run : Run (Unit {0})) (old new : Standing) : Type 0 where
  pub number : ℕ
  pub label : ℕ
  pub sampler : IsGiver Sampler old.plan number label
  pub paused : ℕ
  pub goes : Goes before run (events_paused paused (Nothing number ∷ [])) (rest new) after
  pub heard : Goes before run (events_waited paused) (give (Nothing number) (rest new)) after
  pub unit : 0 < old.units
  pub new_is : new ≡ record old { begun = true; user = new.user; units = old.units - 1; config = new.config; machine = new.machine; trace = trace_paused old.trace paused ++ NullItem number ∷ [] }

-- The section of a lock of the plan is to be entered, where none is open: a unit was used, and that the section is entered
-- is owed to the trace.
pub record EntersSection (before after : Account) (run : Run (Unit {0})) (old new : Standing) (lock : ℕ) : Type 0 where
  pub lock_is : IsLock old.plan.elements lock
  pub none_open : old.section ≡ None
  pub heard : Goes before run [] (give (Entered lock) (rest new)) after
  pub unit : 0 < old.units
  pub new_is : new ≡ record old { begun = true; user = new.user; units = old.units - 1; config = new.config; machine = new.machine; entering = Some lock }

-- The open section was left, and the trace says so: the thread came out of its element, or a limit ends the thread next.
pub record LeavesSection (before after : Account) (run : Run (Unit {0})) (old new : Standing) (lock : ℕ) : Type 0 where
  pub lock_is : IsLock old.plan.elements lock
  pub open_ : old.section ≡ Some lock
  pub heard : Goes before run [] (give (Left lock) (rest new)) after
  pub fewer : new.units ≤ old.units
  pub new_is : new ≡ record old { begun = new.begun; user = new.user; units = new.units; config = new.config; machine = new.machine; section = None; last = new.last; trace = old.trace ++ LeftItem lock ∷ [] }

-- the run is over, and the trace says how
pub record IsOver (before after : Account) (run : Run (Unit {0})) (old new : Standing) (end : End) : Type 0 where
  pub goes : Goes before run (Ended end ∷ []) (over tt) after
  pub settled : old.section ≡ None
  pub fewer : new.units ≤ old.units
  pub new_is : new ≡ record old { begun = new.begun; user = new.user; units = new.units; config = new.config; machine = new.machine; trace = old.trace ++ EndedItem end ∷ []; ended = true }

-- out of memory: the run has given nothing more, was cut somewhere on its way, the open section was left, and the trace says so
pub record IsCut (before after : Account) (run : Run (Unit {0})) (old new : Standing) : Type 0 where
  pub left : Run (Unit {0})
  pub goes : Goes before run [] left after
  pub fewer : new.units ≤ old.units
  pub new_is : new ≡ record old { begun = new.begun; user = new.user; units = new.units; config = new.config; machine = new.machine; section = None; trace = old.trace ++ (left_traced old.section ++ EndedItem NoMemory ∷ []); ended = true }

abbrev pub Ends : Account → Account → Run (Unit {0}) → Standing → Standing → End → Type 0
Ends before after run old new Stopped = ⊥
Ends before after run old new NoMemory = IsCut before after run old new
Ends before after run old new end = IsOver before after run old new end

-- what a step that answers so has done of this run, which was left after the pause
abbrev pub Gives : Account → Account → Run (Unit {0}) → Standing → Standing → Step → Type 0
Gives before after run old new (SampledStep entry) = GivesSample before after run old new entry
Gives before after run old new NullStep = GivesNone before after run old new
Gives before after run old new (Enter lock) = EntersSection before after run old new lock
Gives before after run old new (Leave lock) = LeavesSection before after run old new lock
Gives before after run old new (EndedStep end) = Ends before after run old new end

-- What a step that answers so has done: the pause before the first variables, if it was still to come, and then what the answer says.
pub record Steps (before after : Account) (old new : Standing) (step : Step) : Type 0 where
  pub begun : Account
  pub between : Standing
  pub begins : Begins before begun old between
  pub gives : Gives begun after (rest between) between new step
