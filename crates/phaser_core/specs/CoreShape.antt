-- What a core shows, and how that goes with words and views.
use Rattle.std.specs.Prelude.{◌≡◌, ℕ, ◌==◌, Bool, true, false, List, [], ◌∷◌, length, map, Option, Some, None, IsTrue, slice_index}
use lib.ListN.{get_elem?}
use Rattle.interval_tables.specs.declared.report.Report.{Report}
use Rattle.phaser_core.specs.declared.view.Numbers.{Numbers}
use Rattle.phaser_core.specs.declared.view.Stage.TheVariants.{Out}
use Rattle.phaser_core.specs.declared.view.ReporterStage.{ReporterStage}
use Rattle.phaser_core.specs.declared.view.ReporterStage.TheVariants.{Idle, Waiting}
use Rattle.phaser_core.specs.declared.view.ReporterView.{ReporterView}
use Rattle.phaser_core.specs.declared.view.View.{View}
use Rattle.phaser_core.specs.declared.view.View.TheVariants as view
use Rattle.phaser_core.specs.declared.view.Event.{Event}
use Rattle.phaser_core.specs.declared.view.Event.TheVariants as event
use Rattle.phaser_core.specs.declared.writer.WriterState.{WriterState}
use Rattle.phaser_core.specs.declared.writer.WriterState.TheVariants.{Live, Gone}
use Rattle.phaser_core.specs.declared.applied.Applied.{Applied}
use Rattle.phaser_core.specs.declared.applied.Applied.TheVariants.{Old, NotEnabled}
use Rattle.phaser_core.specs.Cells.{report_from, cell_at}
use Rattle.phaser_core.specs.declared.view.Joined.{Joined}
use Rattle.phaser_core.specs.Views.{Pair}
use Rattle.phaser_core.specs.CoreMoves.{Move, first_words}
use Rattle.phaser_core.specs.Plain.{Parts, look_answer, is_idle}
use Rattle.phaser_core.specs.Step.{CoreState, port_of, move_at, core_step, next_state, FitsEvent}
use Rattle.phaser_core.specs.Invariant.{RecorderInvariant}

-- the words, and of the views all but the lists and the marks
pub record Shape : Type 0 where
  pub numbers : Numbers
  pub words : List ℕ
  pub writers : List WriterState
  pub reporter : Parts

-- what is kept of a writer's view
abbrev pub kept_of : View → WriterState
kept_of (view.Writer w) = Live w.number w.stage (length w.list) w.made
kept_of (view.Reporter r) = Gone
kept_of view.Gone = Gone

-- what is kept of the reporter's view
abbrev pub parts_of : ReporterView → Parts
parts_of r = record { interval = r.interval; closing = r.closing; taken = r.cells; closed = r.closed }

-- the shape is that of a reporter's view and the other views
pub record ShowsViews (s : Shape) (r : ReporterView) (others : List View) : Type 0 where
  pub labels : r.labels ≡ s.numbers.labels
  pub reporter : parts_of r ≡ s.reporter
  pub writers : map kept_of others ≡ s.writers

-- The core with this shape may stand for these views, over its words.
abbrev pub Shows : Shape → List View → Type 0
Shows s [] = ⊥
Shows s (view.Reporter r ∷ others) = ShowsViews s r others
Shows s (view.Writer w ∷ others) = ⊥
Shows s (view.Gone ∷ others) = ⊥

-- the number that an event's step finds: a split and a join load the active word
abbrev pub found_by : List ℕ → Option Move → ℕ
found_by words None = 0
found_by words (Some m) = slice_index words m.word

abbrev pub found_of : Numbers → List ℕ → List View → Event → ℕ
found_of n words views event.Split = slice_index words 0
found_of n words views (event.Join w) = slice_index words 0
found_of n words views e = found_by words (move_at n e (get_elem? views (port_of e)))

-- what an enabled event answers: the number found, but for a look
abbrev pub answer_of : Event → ReporterStage → ℕ → Applied
answer_of event.Look (Waiting want) found = look_answer (found == want) found want
answer_of _ closing found = Old found

-- The answer to an event and the shape after it, where the step of the state and the number that it finds are given: without a step the event is not enabled, and the core as before.
abbrev pub Answered : Shape → Event → ℕ → Option CoreState → Applied → Shape → Type 0
Answered before e found None a after = (a ≡ NotEnabled) × (after ≡ before)
Answered before e found (Some s) a after = (a ≡ answer_of e before.reporter.closing found) × (after.numbers ≡ before.numbers) × (after.words ≡ s.0) × Shows after s.1

-- An event applied to a core is the step of every state that the core may stand for.
abbrev pub Applies : Shape → Event → Applied → Shape → Type 0
Applies before e a after = (views : List View) → Shows before views → Answered before e (found_of before.numbers before.words views e) (core_step before.numbers before.words views e) a after

-- the core may stand for the state, which meets the recorder invariant
abbrev pub Holds : Shape → CoreState → Type 0
Holds core state = Shows core state.1 × RecorderInvariant core.numbers core.words state.1

-- An event keeps the recorder invariant: of views that the core may stand for and that meet it, the core after the event may
-- stand for the views after it, and they meet it too. The event's entry has numbers of 32 bits.
abbrev pub KeepsInvariant : Shape → Event → Shape → Type 0
KeepsInvariant before e after = (views : List View) → Holds before (before.words, views) → FitsEvent e → Holds after (next_state before.numbers (before.words, views) e)

-- a core as it is made
abbrev pub first_shape : Numbers → Shape
first_shape n = record { numbers = n; words = first_words n.labels; writers = Live 0 Out 0 1 ∷ []; reporter = record { interval = 0; closing = Idle; taken = []; closed = [] } }

-- every writer is joined, and the reporter is idle
abbrev pub all_gone : List WriterState → Bool
all_gone [] = true
all_gone (Live number stage entries made ∷ ws) = false
all_gone (Gone ∷ ws) = all_gone ws

abbrev pub IsDone : Shape → Type 0
IsDone s = IsTrue (is_idle s.reporter.closing) × IsTrue (all_gone s.writers)

-- the report of the interval that is open at the end
abbrev pub open_report : Shape → Report
open_report s = report_from s.numbers.labels s.reporter.interval (λ j. slice_index s.words (cell_at s.numbers.labels s.reporter.interval j))

-- the lists of the joined writers
abbrev pub joined_lists : List View → List (List Pair)
joined_lists [] = []
joined_lists (view.Reporter r ∷ others) = map (λ (j : Joined). j.list) r.joined
joined_lists (view.Writer w ∷ others) = []
joined_lists (view.Gone ∷ others) = []
