-- A turn of a thread and of the reporter: each moves one place in one thread's list, in the recorder's state, or in the words
-- of the sections.
use Rattle.std.specs.Prelude.{ℕ, ◌+◌, ◌/◌, ◌==◌, ◌&&◌, ◌||◌, zero, suc, Bool, true, false, List, [], ◌∷◌, ◌++◌, Option, Some, None, slice_get, slice_index, slice_set}
use lib.ListN.{get_elem?}
use mathlib.Core.Option as maybe
use mathlib.Core.Option.{some, none}
use Rattle.jm_base.specs.Run.{Event, Left}
use Rattle.jm_base.specs.declared.types.Sample.{Sample}
use Rattle.interval_tables.specs.declared.report.Report.{Report}
use Rattle.phaser_core.specs.declared.view.Numbers.{Numbers}
use Rattle.phaser_core.specs.declared.view.ReporterStage.{ReporterStage}
use Rattle.phaser_core.specs.declared.view.ReporterStage.TheVariants.{Idle, Swapped, Cleared, Waiting, Harvest}
use Rattle.phaser_core.specs.declared.view.View.{View}
use Rattle.phaser_core.specs.declared.view.View.TheVariants.{Reporter, Writer, Gone}
use Rattle.phaser_core.specs.declared.view.Event.{Event as CoreEvent}
use Rattle.phaser_core.specs.declared.view.Event.TheVariants as core
use Rattle.phaser_core.specs.Cells.{is_odd}
use Rattle.phaser_core.specs.CoreShape.{parts_of, open_report}
use Rattle.phaser_core.specs.Step.{CoreState, next_state}
use Rattle.thread_machine.specs.declared.trace.TraceItem.TheVariants.{Sampled as SampledItem, Entered as EnteredItem}
use Rattle.weave_engine.specs.Steps.{Owed, Nought, Record, Section, Stop, Thread, shows, owes, opens, all_happen, stopped}

-- The threads, the recorder's words and views, and of each lock its word: twice the number of its closed sections, and 1 more
-- while one is open.
pub record Weave : Type 0 where
  pub threads : List Thread
  pub core : CoreState
  pub locks : List ℕ

abbrev pub with_thread : ℕ → Thread → Weave → Weave
with_thread d t s = record { threads = slice_set s.threads d t; core = s.core; locks = s.locks }

abbrev pub with_locks : List ℕ → Weave → Weave
with_locks locks s = record { threads = s.threads; core = s.core; locks = locks }

-- an atomic step of the recorder; one that is not enabled changes nothing
abbrev pub core_moves : Numbers → CoreEvent → Weave → Weave
core_moves n e s = record { threads = s.threads; core = next_state n s.core e; locks = s.locks }

-- A turn of a thread

-- the interval that a record's load finds
abbrev pub interval_after : CoreEvent → List ℕ → ℕ → ℕ
interval_after (core.Load writer e) words interval = slice_index words 0
interval_after _ words interval = interval

-- after the last step of the record the trace shows the sample, with its interval
abbrev pub recorded : Sample → ℕ → List CoreEvent → Thread → Thread
recorded sample interval [] t = owes Nought (shows (SampledItem sample interval) t)
recorded sample interval (e ∷ steps) t = owes (Record sample interval (e ∷ steps)) t

abbrev pub record_turn : Numbers → ℕ → Sample → ℕ → List CoreEvent → Thread → Weave → Weave
record_turn n d sample interval [] t s = s
record_turn n d sample interval (e ∷ steps) t s =
    with_thread d (recorded sample (interval_after e s.core.0 interval) steps t) (core_moves n e s)

-- One try to enter a section: an odd word is busy, and an even one is made odd.
abbrev pub try_turn : Bool → ℕ → ℕ → Thread → Weave → Weave
try_turn true d lock t s = s
try_turn false d lock t s =
    with_locks (slice_set s.locks lock (slice_index s.locks lock + 1))
    (with_thread d (opens (Some lock) (owes Nought (shows (EnteredItem lock (slice_index s.locks lock / 2)) t))) s)

-- the words of the locks once the sections among these events are left
abbrev pub locks_left : List Event → List ℕ → List ℕ
locks_left [] locks = locks
locks_left (Left lock ∷ events) locks = locks_left events (slice_set locks lock (slice_index locks lock + 1))
locks_left (e ∷ events) locks = locks_left events locks

-- the next step of the list; one that leaves a section leaves it in that same turn
abbrev pub step_turn : ℕ → List (List Event) → Thread → Weave → Weave
step_turn d [] t s = s
step_turn d (step ∷ steps) t s =
    with_locks (locks_left step s.locks)
    (with_thread d (all_happen d step (record { ahead = steps; trace = t.trace; owed = t.owed; open_lock = t.open_lock })) s)

abbrev pub lock_left : Option ℕ → List ℕ → List ℕ
lock_left None locks = locks
lock_left (Some lock) locks = slice_set locks lock (slice_index locks lock + 1)

abbrev pub stop_turn : ℕ → Thread → Weave → Weave
stop_turn d t s = with_locks (lock_left t.open_lock s.locks) (with_thread d (stopped t) s)

-- a thread that has seen stop is stopped; any other makes its next step
abbrev pub looked_turn : Bool → ℕ → Thread → Weave → Weave
looked_turn true d t s = stop_turn d t s
looked_turn false d t s = step_turn d t.ahead t s

-- it looks at the stop word, unless it has ended
abbrev pub free_turn : Numbers → ℕ → List (List Event) → Thread → Weave → Weave
free_turn n d [] t s = s
free_turn n d (step ∷ steps) t s = looked_turn (slice_index s.core.0 4 == 1) d t (core_moves n (core.LookStop d) s)

abbrev pub owed_turn : Numbers → ℕ → Owed → Thread → Weave → Weave
owed_turn n d Nought t s = free_turn n d t.ahead t s
owed_turn n d (Record sample interval steps) t s = record_turn n d sample interval steps t s
owed_turn n d (Section lock) t s = try_turn (is_odd (slice_index s.locks lock)) d lock t s
owed_turn n d Stop t s = with_thread d (owes Nought t) (core_moves n (core.RaiseStop d) s)

-- a number that is no thread's has an empty turn
abbrev pub turn_of : Numbers → ℕ → Option Thread → Weave → Weave
turn_of n d None s = s
turn_of n d (Some t) s = owed_turn n d t.owed t s

-- One turn of thread d: the next step of the sample that it records, one try to enter, the stop that it raises; otherwise it
-- looks at the stop word and then is stopped, or makes its next step.
abbrev pub thread_turn : Numbers → ℕ → Weave → Weave
thread_turn n d s = turn_of n d (slice_get s.threads d) s

-- Turns of a thread in a row

abbrev pub owes_nothing : Owed → Bool
owes_nothing Nought = true
owes_nothing (Record sample interval steps) = false
owes_nothing (Section lock) = false
owes_nothing Stop = false

abbrev pub is_free : Option Thread → Bool
is_free None = true
is_free (Some t) = owes_nothing t.owed

abbrev pub finds_busy : Owed → List ℕ → Bool
finds_busy (Section lock) locks = is_odd (slice_index locks lock)
finds_busy Nought locks = false
finds_busy (Record sample interval steps) locks = false
finds_busy Stop locks = false

abbrev pub is_busy : Option Thread → List ℕ → Bool
is_busy None locks = false
is_busy (Some t) locks = finds_busy t.owed locks

-- The turn here is the last of a row: after it the thread owes nothing, or it is a try that finds the section busy.
abbrev pub ends_row : Numbers → ℕ → Weave → Bool
ends_row n d s = is_free (slice_get (thread_turn n d s).threads d) || is_busy (slice_get s.threads d) s.locks

-- A turn of the reporter

abbrev pub closing_event : ReporterStage → CoreEvent
closing_event Idle = core.SwapActive
closing_event Swapped = core.ClearEnd
closing_event Cleared = core.Flip
closing_event (Waiting want) = core.Look
closing_event (Harvest j) = core.Take

abbrev pub closing_in : maybe.Option View → ReporterStage
closing_in (some (Reporter r)) = r.closing
closing_in (some (Writer w)) = Idle
closing_in (some Gone) = Idle
closing_in none = Idle

-- how far the reporter is
abbrev pub closing_of : Weave → ReporterStage
closing_of s = closing_in (get_elem? s.core.1 0)

-- the reporter's next event
abbrev pub reporter_turn : Numbers → Weave → Weave
reporter_turn n s = core_moves n (closing_event (closing_of s)) s

abbrev pub is_idle : ReporterStage → Bool
is_idle Idle = true
is_idle Swapped = false
is_idle Cleared = false
is_idle (Waiting want) = false
is_idle (Harvest j) = false

-- a look that finds another number than is waited for
abbrev pub is_waiting : ReporterStage → Bool
is_waiting (Waiting want) = true
is_waiting Idle = false
is_waiting Swapped = false
is_waiting Cleared = false
is_waiting (Harvest j) = false

abbrev pub idle_after : Numbers → Weave → Bool
idle_after n s = is_idle (closing_of (reporter_turn n s))

-- The turn here is the last of a row: after it the reporter is idle, or it is a look that finds writers of the old phase.
abbrev pub ends_reporters_row : Numbers → Weave → Bool
ends_reporters_row n s = idle_after n s || (is_waiting (closing_of s) && is_waiting (closing_of (reporter_turn n s)))

-- After the schedule

-- one turn each, in thread order
abbrev pub turns_to : Numbers → ℕ → Weave → Weave
turns_to n zero s = s
turns_to n (suc d) s = thread_turn n d (turns_to n d s)

abbrev pub has_no_step : List (List Event) → Bool
has_no_step [] = true
has_no_step (step ∷ steps) = false

abbrev pub has_settled : Thread → Bool
has_settled t = has_no_step t.ahead && owes_nothing t.owed

abbrev pub all_settled : List Thread → Bool
all_settled [] = true
all_settled (t ∷ ts) = has_settled t && all_settled ts

-- after this round of turns all threads have ended and owe nothing
abbrev pub ends_rounds : Numbers → ℕ → Weave → Bool
ends_rounds n count s = all_settled (turns_to n count s).threads

-- the writers are joined, in their order
abbrev pub joined_to : Numbers → ℕ → CoreState → CoreState
joined_to n zero state = state
joined_to n (suc d) state = next_state n (joined_to n d state) (core.Join d)

-- the closed reports, and the report of the active interval as the last
abbrev pub reports_in : Numbers → List ℕ → maybe.Option View → List Report
reports_in n words (some (Reporter r)) = r.closed ++ open_report (record { numbers = n; words = words; writers = []; reporter = parts_of r }) ∷ []
reports_in n words (some (Writer w)) = []
reports_in n words (some Gone) = []
reports_in n words none = []

abbrev pub reports_of : Numbers → CoreState → List Report
reports_of n s = reports_in n s.0 (get_elem? s.1 0)
