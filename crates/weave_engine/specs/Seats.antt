-- How a thread of the list of its events goes with a worker that knows no event to come.
use Rattle.std.specs.Prelude.{◌≡◌, ◌⊎◌, ℕ, zero, suc, ◌+◌, ◌-◌, ◌*◌, ◌<◌, ◌≤◌, ◌++◌, ◌&&◌, ◌||◌, if◌then◌else◌, slice_get, slice_index, slice_index_or, length, Bool, true, false, List, [], ◌∷◌, Option, Some, None, drop, slice_set, map, take}
use Rattle.jm_base.specs.declared.types.Entry.{Entry}
use Rattle.jm_base.specs.declared.types.Sample.{Sample}
use Rattle.jm_base.specs.declared.types.End.{End}
use Rattle.jm_base.specs.declared.types.End.TheVariants.{StopTest, NoMemory}
use Rattle.jm_base.specs.Run.{Event, Run, over_value}
use Rattle.jm_base.specs.Outside.{Scripts, script_form}
use Rattle.jm_base.specs.Outside.{Account}
use Rattle.outside_world.specs.Scripted.{scripts_of, scripted_account}
use Rattle.jm_meaning.specs.Beginning.{Options}
use Rattle.thread_machine.specs.Standing.{Standing, rest, Stands}
use Rattle.thread_machine.specs.Follows.{HasRun, WasStopped}
use Rattle.thread_machine.specs.Stepped.{entry_of}
use Rattle.thread_machine.specs.declared.trace.TraceItem.{TraceItem}
use Rattle.element_tree.specs.Tree.{Tree, threads_of}
use Rattle.element_tree.specs.Names.{labels_of, locks_of}
use lib.ListN.{get_elem?}
use mathlib.Core.Option.{some}
use Rattle.phaser_core.specs.declared.view.Stage.{Stage}
use Rattle.phaser_core.specs.declared.view.Stage.TheVariants.{Out, In, On}
use Rattle.phaser_core.specs.declared.view.WriterView.{WriterView}
use Rattle.phaser_core.specs.declared.view.View.{View}
use Rattle.phaser_core.specs.declared.view.View.TheVariants.{Reporter, Writer, Gone}
use Rattle.phaser_core.specs.declared.view.ReporterView.{ReporterView}
use Rattle.phaser_core.specs.declared.view.Joined.{Joined}
use Rattle.phaser_core.specs.declared.view.ReporterStage.TheVariants.{Idle}
use Rattle.phaser_core.specs.Views.{Pair}
use Rattle.phaser_core.specs.declared.view.Numbers.{Numbers}
use Rattle.phaser_core.specs.declared.view.Event.{Event as CoreEvent}
use Rattle.phaser_core.specs.CoreShape.{Shape, Shows}
use Rattle.phaser_core.specs.Invariant.{RecorderInvariant}
use Rattle.phaser_core.specs.Step.{CoreState}
use Rattle.weave_engine.specs.declared.seat.Owed.{Owed as OwedBy}
use Rattle.weave_engine.specs.declared.seat.Owed.TheVariants as by
use Rattle.weave_engine.specs.declared.seat.Seat.{Seat}
use Rattle.weave_engine.specs.Steps.{Owed, Nought, Record, Section, Stop, Thread, steps_of, record_steps, all_happen}
use Rattle.weave_engine.specs.Turns.{Weave, locks_left, lock_left, recorded, thread_turn}
use Rattle.weave_engine.specs.Exclusive.{Exclusive}
use Rattle.phaser_core.specs.Cells.{is_odd}
use Rattle.thread_machine.specs.Paired.{pairs, pairs_of}
use Rattle.phaser_core.specs.Keeps.{AllKeep}
use Rattle.weave_engine.specs.Followed.{AllFollow}
use Rattle.weave_engine.specs.Woven.{numbers_of, at_start, Woven}
use Rattle.interval_tables.specs.declared.report.Report.{Report}
use Rattle.phaser_core.specs.Shares.{Partition}
use Rattle.schedule_text.specs.declared.token.Token.{Token}

-- the events that a run still gives over the replies of a plan
abbrev pub events_over : Option Scripts → Run (Unit {0}) → List Event
events_over None run = []
events_over (Some v) run = (over_value script_form run v).events

-- how many steps a record has
abbrev pub step_count : Bool → ℕ
step_count true = 8
step_count false = 9

-- a sample that is being recorded: that many steps of its record are done
pub record Records (entry : Entry) (done interval : ℕ) (worker : Standing) (owed : Owed) : Type 0 where
  pub sample : Sample
  pub there : worker.owed ≡ Some sample
  pub enters_none : worker.entering ≡ None
  pub entry_is : entry ≡ entry_of sample
  pub more : done < step_count entry.ok
  pub left : owed ≡ Record sample interval (drop done (record_steps worker.thread entry))

-- a section of the plan that is to be entered, where none is open
pub record Enters (lock : ℕ) (worker : Standing) (owed : Owed) : Type 0 where
  pub no_sample : worker.owed ≡ None
  pub there : worker.entering ≡ Some lock
  pub none_open : worker.section ≡ None
  pub going : worker.ended ≡ false
  pub known : lock < length (locks_of worker.plan.elements)
  pub left : owed ≡ Section lock

-- what a seat owes is what its thread owes
abbrev pub OwesSame : OwedBy → Standing → Owed → Type 0
OwesSame by.Nothing worker owed = (worker.owed ≡ None) × (worker.entering ≡ None) × (owed ≡ Nought)
OwesSame (by.Record entry done interval) worker owed = Records entry done interval worker owed
OwesSame (by.Enter lock) worker owed = Enters lock worker owed
OwesSame by.Stop worker owed = (worker.owed ≡ None) × (worker.entering ≡ None) × (owed ≡ Stop)

-- The thread's list is what is left of the worker's run over what is left of the replies.
pub record SeatIs (seat : Seat) (t : Thread) : Type 0 where
  pub ahead : t.ahead ≡ steps_of (events_over seat.outside.value (rest seat.worker))
  pub trace : t.trace ≡ seat.worker.trace
  pub owed : OwesSame seat.owed seat.worker t.owed
  pub open_lock : t.open_lock ≡ seat.worker.section
  pub section : seat.section ≡ seat.worker.section
  pub at_end : seat.ended ≡ true → seat.worker.section ≡ None
  pub scripts : Scripts
  pub value : seat.outside.value ≡ Some scripts
  pub ended : seat.ended ≡ seat.worker.ended
  pub number : seat.number ≡ seat.worker.thread

-- the seat makes the next step of the thread's list, in which this section is left, if any
pub record MakesStep (t : Thread) (left : Option ℕ) (new : Seat) : Type 0 where
  pub step : List Event
  pub steps : List (List Event)
  pub next : t.ahead ≡ step ∷ steps
  pub leaves : (locks : List ℕ) → locks_left step locks ≡ lock_left left locks
  pub made : SeatIs new (all_happen new.worker.thread step (record { ahead = steps; trace = t.trace; owed = t.owed; open_lock = t.open_lock }))

abbrev pub owed_after : End → OwedBy
owed_after StopTest = by.Stop
owed_after end = by.Nothing

abbrev pub IsNoMemory : End → Type 0
IsNoMemory NoMemory = Unit {0}
IsNoMemory end = ⊥

-- the core stands for these words and views
pub record CoreIs (core : Shape) (n : Numbers) (state : CoreState) : Type 0 where
  pub numbers : core.numbers ≡ n
  pub words : state.0 ≡ core.words
  pub shows : Shows core state.1
  pub invariant : RecorderInvariant n state.0 state.1

-- after a step of its record: with steps left, or, after the last, the sample in the trace
abbrev pub RecordedAs : Owed → Thread → List CoreEvent → ℕ → Seat → Type 0
RecordedAs (Record sample before steps) t rest interval new = SeatIs new (recorded sample interval rest t)
RecordedAs Nought t rest interval new = ⊥
RecordedAs (Section lock) t rest interval new = ⊥
RecordedAs Stop t rest interval new = ⊥

-- the seats stand for threads of these numbers, from the first on
abbrev pub AreSeats : ℕ → List Seat → List Thread → Type 0
AreSeats i [] [] = Unit {0}
AreSeats i [] (t ∷ ts) = ⊥
AreSeats i (x ∷ xs) [] = ⊥
AreSeats i (x ∷ xs) (t ∷ ts) = SeatIs x t × (x.worker.thread ≡ i) × AreSeats (i + 1) xs ts

-- The writers of the seats

-- a writer with that many steps of a record done
abbrev pub RecordStage : Entry → ℕ → ℕ → Stage → Type 0
RecordStage entry interval zero stage = stage ≡ Out
RecordStage entry interval (suc zero) stage = (p : Bool) × (stage ≡ In p)
RecordStage entry interval (suc (suc j)) stage = (p : Bool) × (stage ≡ On p interval entry j)

-- a writer is out but for the record of a sample
abbrev pub StageOf : OwedBy → Stage → Type 0
StageOf by.Nothing stage = stage ≡ Out
StageOf (by.Record entry done interval) stage = RecordStage entry interval done stage
StageOf (by.Enter lock) stage = stage ≡ Out
StageOf by.Stop stage = stage ≡ Out

-- the writer of this number, which is as far as what its thread owes, and whose list is this
pub record Writes (views : List View) (d : ℕ) (owed : OwedBy) (list : List Pair) : Type 0 where
  pub writer : WriterView
  pub there : get_elem? views (d + 1) ≡ some (Writer writer)
  pub number : writer.number ≡ d
  pub stage : StageOf owed writer.stage
  pub list_is : writer.list ≡ list

abbrev pub pending_of : OwedBy → ℕ
pending_of by.Nothing = 0
pending_of (by.Record entry done interval) = 1
pending_of (by.Enter lock) = 0
pending_of by.Stop = 0

abbrev pub LabelIn : ℕ → OwedBy → Type 0
LabelIn labels by.Nothing = Unit {0}
LabelIn labels (by.Record entry done interval) = entry.label < labels
LabelIn labels (by.Enter lock) = Unit {0}
LabelIn labels by.Stop = Unit {0}

-- the units of a thread that goes on
abbrev pub units_in : Bool → ℕ → ℕ
units_in true units = 0
units_in false units = units

-- what the seat still records has room, and the labels are those of its plan
pub record HasRoom (n : Numbers) (seat : Seat) : Type 0 where
  pub room : length (pairs seat.worker.trace) + pending_of seat.owed + units_in seat.ended seat.worker.units ≤ n.budget
  pub labels : n.labels ≡ length (labels_of seat.worker.plan.elements)
  pub label : LabelIn n.labels seat.owed

-- port d + 1 is that of the writer of seat d, and there are no others
pub record AreWriters (n : Numbers) (seats : List Seat) (views : List View) : Type 0 where
  pub ports : length views ≡ length seats + 1
  pub each : (k : ℕ) (x : Seat) → slice_get seats k ≡ Some x → HasRoom n x × Writes views k x.owed (pairs x.worker.trace)

-- an event of writer d changes its port alone
pub record Wrote (before after : List View) (d : ℕ) (owed : OwedBy) (list : List Pair) : Type 0 where
  pub writes : Writes after d owed list
  pub others : (k : ℕ) → (k ≡ d + 1 → ⊥) → get_elem? after k ≡ get_elem? before k
  pub ports : length after ≡ length before

-- a step of a thread, or its stop: its writer is out before and after it, and no entry is new
pub record StepsOut (old new : Seat) : Type 0 where
  pub room : (n : Numbers) → HasRoom n old → HasRoom n new
  pub out : (stage : Stage) → stage ≡ Out → StageOf new.owed stage
  pub list : pairs new.worker.trace ≡ pairs old.worker.trace

abbrev pub owed_then : Bool → Entry → ℕ → ℕ → OwedBy
owed_then true entry done interval = by.Nothing
owed_then false entry done interval = by.Record entry done interval

abbrev pub pair_then : Bool → Entry → ℕ → List Pair
pair_then true entry interval = (interval, entry) ∷ []
pair_then false entry interval = []

-- one step more of a record is done; after the last one the entry is in the trace
pub record RecordsOn (last : Bool) (entry : Entry) (done interval : ℕ) (old new : Seat) : Type 0 where
  pub room : (n : Numbers) → HasRoom n old → HasRoom n new
  pub owed : new.owed ≡ owed_then last entry done interval
  pub list : pairs new.worker.trace ≡ pairs old.worker.trace ++ pair_then last entry interval

-- seats and a core stand for a run of a schedule
pub record Runs (n : Numbers) (seats : List Seat) (core : Shape) (s : Weave) : Type 0 where
  pub threads : AreSeats 0 seats s.threads
  pub core_is : CoreIs core n s.core
  pub writers : AreWriters n seats s.core.1

-- and these are the words of its locks
pub record RunsOn (n : Numbers) (seats : List Seat) (core : Shape) (locks : List ℕ) (s : Weave) : Type 0 where
  pub runs : Runs n seats core s
  pub words : s.locks ≡ locks

-- The words of the locks

-- the lock of the open section of each
abbrev pub opens_of : List Seat → List (Option ℕ)
opens_of seats = map (λ (x : Seat). x.worker.section) seats

-- The sections of a turn: none is entered or left; or one is entered that is free, where none was open; or the open one is left.
-- Its word goes up by one.
abbrev pub MovesOne : Option ℕ → Option ℕ → List ℕ → List ℕ → Type 0
MovesOne old new locks locks' =
    ((new ≡ old) × (locks' ≡ locks))
    ⊎ ((lock : ℕ) × (old ≡ None) × (new ≡ Some lock) × (lock < length locks) × (is_odd (slice_index locks lock) ≡ false) × (locks' ≡ lock_left (Some lock) locks))
    ⊎ ((lock : ℕ) × (old ≡ Some lock) × (new ≡ None) × (locks' ≡ lock_left (Some lock) locks))

-- a thread stays that of its plan, by its number
pub record IsSameThread (old new : Seat) : Type 0 where
  pub number : new.worker.thread ≡ old.worker.thread
  pub plan : new.worker.plan ≡ old.worker.plan

-- an end changes neither the worker nor its outside
pub record IsKeptBy (old new : Seat) : Type 0 where
  pub worker : new.worker ≡ old.worker
  pub outside : new.outside ≡ old.outside
  pub number : new.number ≡ old.number
  pub section : new.section ≡ old.section

-- the section that a step leaves, if any, was open; no other is entered or left
abbrev pub StepSections : Seat → Seat → Option ℕ → Type 0
StepSections old new None = new.worker.section ≡ old.worker.section
StepSections old new (Some lock) = (old.worker.section ≡ Some lock) × (new.worker.section ≡ None)

-- a thread has had its turn
pub record Turned (n : Numbers) (d : ℕ) (s : Weave) (seat : Seat) (core : Shape) (locks : List ℕ) : Type 0 where
  pub thread : Thread
  pub state : CoreState
  pub turn : thread_turn n d s ≡ record { threads = slice_set s.threads d thread; core = state; locks = locks }
  pub seat_is : SeatIs seat thread
  pub core_is : CoreIs core n state
  pub room : HasRoom n seat
  pub wrote : Wrote s.core.1 state.1 d seat.owed (pairs seat.worker.trace)

-- In whatever run the seat, the core and the words stand, the seat has had its turn.
abbrev pub TurnsIn : Seat → Shape → List ℕ → Seat → Shape → List ℕ → Type 0
TurnsIn old core locks new core' locks' =
    (n : Numbers) (s : Weave) (t : Thread) → slice_get s.threads old.worker.thread ≡ Some t → SeatIs old t → CoreIs core n s.core → s.locks ≡ locks → HasRoom n old
    → Writes s.core.1 old.worker.thread old.owed (pairs old.worker.trace) → Turned n old.worker.thread s new core' locks'

-- the next of a record's steps, and whether it is the last
abbrev pub IsNext : List CoreEvent → CoreEvent → List CoreEvent → Bool → Type 0
IsNext steps event rest true = (steps ≡ event ∷ rest) × (rest ≡ [])
IsNext steps event rest false = (steps ≡ event ∷ rest) × ((e : CoreEvent) × (es : List CoreEvent) × (rest ≡ e ∷ es))

-- how many steps are left of what is owed
abbrev pub owed_left : OwedBy → ℕ
owed_left by.Nothing = 0
owed_left (by.Record entry done interval) = step_count entry.ok - done
owed_left (by.Enter lock) = 2
owed_left by.Stop = 1

-- one more for an open section
abbrev pub section_left : Option ℕ → ℕ
section_left None = 0
section_left (Some lock) = 1

-- How many turns a thread can still take, at most, but for tries that find a section busy: twelve for each unit of its budget and
-- for its end, those that it owes, and one for its open section.
abbrev pub turns_left : Seat → ℕ
turns_left seat = (if seat.ended then 0 else 12 * seat.worker.units + 12) + owed_left seat.owed + section_left seat.worker.section

-- there is a word for each lock, and it is far from the last number of a word
pub record HasWords (seat : Seat) (locks : List ℕ) : Type 0 where
  pub count : length locks ≡ length (locks_of seat.worker.plan.elements)
  pub light : (lock : ℕ) → slice_index locks lock + turns_left seat ≤ 4294967295

abbrev pub is_nothing : OwedBy → Bool
is_nothing by.Nothing = true
is_nothing (by.Record entry done interval) = false
is_nothing (by.Enter lock) = false
is_nothing by.Stop = false

-- it is to enter a section that is busy
abbrev pub is_blocked : List ℕ → OwedBy → Bool
is_blocked locks by.Nothing = false
is_blocked locks (by.Record entry done interval) = false
is_blocked locks (by.Enter lock) = is_odd (slice_index locks lock)
is_blocked locks by.Stop = false

-- a thread that has ended and owes nothing
abbrev pub is_settled : Seat → Bool
is_settled seat = seat.ended && is_nothing seat.owed

abbrev pub is_free_seat : Option Seat → Bool
is_free_seat None = true
is_free_seat (Some seat) = is_nothing seat.owed

abbrev pub is_free_at : List Seat → ℕ → Bool
is_free_at seats d = is_free_seat (slice_get seats d)

abbrev pub is_blocked_seat : List ℕ → Option Seat → Bool
is_blocked_seat locks None = false
is_blocked_seat locks (Some seat) = is_blocked locks seat.owed

abbrev pub is_blocked_at : List Seat → List ℕ → ℕ → Bool
is_blocked_at seats locks d = is_blocked_seat locks (slice_get seats d)

abbrev pub turns_of : Option Seat → ℕ
turns_of None = 0
turns_of (Some seat) = turns_left seat

-- how many turns the thread of this number can still take
abbrev pub turns_at : List Seat → ℕ → ℕ
turns_at seats d = turns_of (slice_get seats d)

-- a thread that has settled, or that is to enter a busy section
abbrev pub is_still : List ℕ → Seat → Bool
is_still locks seat = is_settled seat || is_blocked locks seat.owed

-- a turn takes one of those that are left, unless the thread has settled or is blocked
abbrev pub Lightens : List ℕ → List ℕ → Seat → Seat → Type 0
Lightens locks locks' old new = (turns_left new < turns_left old) ⊎ ((is_still locks old ≡ true) × (new ≡ old) × (locks' ≡ locks))

-- the thread of this number has had its turn, if there is one
abbrev pub TakesTurn : List ℕ → List ℕ → List Seat → List Seat → ℕ → Type 0
TakesTurn locks locks' old new d =
    ((length old < d + 1) × (new ≡ old) × (locks' ≡ locks))
    ⊎ ((x : Seat) × (d < length old) × (new ≡ slice_set old d x) × Lightens locks locks' (slice_index_or old d x) x)

-- how many turns all threads can still take
abbrev pub total_left : List Seat → ℕ
total_left [] = 0
total_left (x ∷ xs) = turns_left x + total_left xs

abbrev pub all_seats_settled : List Seat → Bool
all_seats_settled [] = true
all_seats_settled (x ∷ xs) = is_settled x && all_seats_settled xs

abbrev pub all_still : List ℕ → List Seat → Bool
all_still locks [] = true
all_still locks (x ∷ xs) = is_still locks x && all_still locks xs

-- What holds of the words of the locks: which sections are open, and that each word is far from its last number.
pub record Locked (seats : List Seat) (locks : List ℕ) : Type 0 where
  pub exclusive : Exclusive (opens_of seats) locks
  pub count : (k : ℕ) (x : Seat) → slice_get seats k ≡ Some x → length locks ≡ length (locks_of x.worker.plan.elements)
  pub light : (lock : ℕ) → slice_index locks lock + total_left seats ≤ 4294967295

-- a round takes a turn, unless all threads have settled
abbrev pub TakesRound : List Seat → List Seat → Type 0
TakesRound old new = (total_left new < total_left old) ⊎ ((all_seats_settled old ≡ true) × (new ≡ old))

-- a seat before its first turn
pub record IsFresh (plan : Tree) (budget : ℕ) (seat : Seat) : Type 0 where
  pub plan_is : seat.worker.plan ≡ plan
  pub units : seat.worker.units ≡ budget
  pub owes_nothing : seat.owed ≡ by.Nothing
  pub none_open : seat.worker.section ≡ None
  pub no_items : seat.worker.trace ≡ []
  pub goes_on : seat.ended ≡ false

abbrev pub AllFresh : Tree → ℕ → List Seat → Type 0
AllFresh plan budget seats = (k : ℕ) (x : Seat) → slice_get seats k ≡ Some x → IsFresh plan budget x

-- the entries of each thread's trace
abbrev pub lists_of : List Seat → List (List Pair)
lists_of [] = []
lists_of (x ∷ xs) = pairs x.worker.trace ∷ lists_of xs

-- that many writers are joined, and the others are out
pub record JoinsTo (k : ℕ) (seats : List Seat) (views : List View) : Type 0 where
  pub ports : length views ≡ length seats + 1
  pub reader : ReporterView
  pub reporter : get_elem? views 0 ≡ some (Reporter reader)
  pub idle : reader.closing ≡ Idle
  pub joined : map (λ (j : Joined). j.list) reader.joined ≡ lists_of (take k seats)
  pub gone : (j : ℕ) → j < k → get_elem? views (j + 1) ≡ some Gone
  pub out : (j : ℕ) (x : Seat) → k ≤ j → slice_get seats j ≡ Some x → (w : WriterView) × (get_elem? views (j + 1) ≡ some (Writer w)) × (w.stage ≡ Out) × (w.list ≡ pairs x.worker.trace)

-- all writers are joined: the core is done, and has an entry for each sample of the traces
pub record IsJoined (n : Numbers) (seats : List Seat) (core : Shape) (state : CoreState) : Type 0 where
  pub core_is : CoreIs core n state
  pub joins : JoinsTo (length seats) seats state.1

-- How a thread's trace stands. Of one that goes on it is a prefix of its events; of one that has ended it is all of them, or a
-- prefix and the stop.
abbrev pub StandsFor : Bool → Account → Account → Options → Standing → Type 0
StandsFor false start now options w = Stands start now options w
StandsFor true start now options w =
    (w.owed ≡ None) × (((end : End) × (IsNoMemory end → ⊥) × HasRun start now w.plan w.thread options w.trace end) ⊎ WasStopped start now w.plan w.thread options w.trace)

abbrev pub SeatStands : Tree → Account → Options → Seat → Type 0
SeatStands plan start options seat = (seat.worker.plan ≡ plan) × StandsFor seat.ended start seat.outside options seat.worker

abbrev pub KeepsOn : Seat → Seat → Type 0
KeepsOn old new = (plan : Tree) (start : Account) (options : Options) → SeatStands plan start options old → SeatStands plan start options new

abbrev pub AllStand : Tree → Account → Options → List Seat → Type 0
AllStand plan start options seats = (k : ℕ) (x : Seat) → slice_get seats k ≡ Some x → SeatStands plan start options x

abbrev pub AllKeepOn : List Seat → List Seat → Type 0
AllKeepOn old new = (plan : Tree) (start : Account) (options : Options) → AllStand plan start options old → AllStand plan start options new

-- an outside that answers from the plan and keeps no list, before its first call
abbrev pub first_outside : Tree → Account
first_outside plan = scripted_account (scripts_of plan) false

-- the traces of seats
abbrev pub traces_in : List Seat → List (List TraceItem)
traces_in [] = []
traces_in (x ∷ xs) = x.worker.trace ∷ traces_in xs

-- the seats of all threads of a plan before the first turn, a core with a writer for each, and a word for each lock
pub record Starts (plan : Tree) (options : Options) (seats : List Seat) (core : Shape) (locks : List ℕ) : Type 0 where
  pub runs : RunsOn (numbers_of plan options) seats core locks (at_start plan options)
  pub locked : Locked seats locks
  pub count : length seats ≡ length (threads_of plan)
  pub few : length (threads_of plan) ≤ 64
  pub stand : AllStand plan (first_outside plan) options seats

-- the seats are those of threads of the plan
abbrev pub AllOf : Tree → List Seat → Type 0
AllOf plan seats = (k : ℕ) (x : Seat) → slice_get seats k ≡ Some x → x.worker.plan ≡ plan

-- no thread of the seats has a section open
abbrev pub AllClosed : List Seat → Type 0
AllClosed seats = (k : ℕ) (x : Seat) → slice_get seats k ≡ Some x → x.worker.section ≡ None

-- the threads of a run that is over, and its reports
pub record IsFinished (plan : Tree) (options : Options) (schedule : List Token) (seats : List Seat) (reports : List Report) : Type 0 where
  pub woven : Woven plan options schedule (traces_in seats) reports
  pub follows : AllFollow plan options (traces_in seats)
  pub partition : Partition (length (labels_of plan.elements)) (pairs_of (traces_in seats)) reports
  pub keep : AllKeep (length (labels_of plan.elements)) options.budget (pairs_of (traces_in seats))
  pub plans : AllOf plan seats
  pub closed : AllClosed seats
  pub count : length seats ≡ length (threads_of plan)
