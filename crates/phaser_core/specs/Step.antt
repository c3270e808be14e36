-- The step of an event on words and views: one step of one actor on one word, where the actor's stage enables it.
use Rattle.std.specs.Prelude.{ℕ, ◌+◌, ◌<◌, ◌==◌, ◌++◌, Bool, true, false, not, List, [], ◌∷◌, length, Option, Some, None, nat_lt, unwrap_or, slice_set}
use mathlib.Core.Option.{some, none}
use mathlib.Core.Option as maybe
use lib.ListN.{get_elem?}
use Rattle.jm_base.specs.SumTotals.{one_if}
use Rattle.phaser_core.specs.declared.view.Numbers.{Numbers}
use Rattle.phaser_core.specs.declared.view.Stage.{Stage}
use Rattle.phaser_core.specs.declared.view.Stage.TheVariants.{Out, In, On}
use Rattle.phaser_core.specs.declared.view.WriterView.{WriterView}
use Rattle.phaser_core.specs.declared.view.ReporterStage.{ReporterStage}
use Rattle.phaser_core.specs.declared.view.ReporterStage.TheVariants.{Idle, Swapped, Cleared, Waiting, Harvest}
use Rattle.phaser_core.specs.declared.view.ReporterView.{ReporterView}
use Rattle.phaser_core.specs.declared.view.View.{View}
use Rattle.phaser_core.specs.declared.view.View.TheVariants.{Reporter, Writer, Gone}
use Rattle.phaser_core.specs.declared.view.Event.{Event}
use Rattle.phaser_core.specs.declared.view.Event.TheVariants as event
use Rattle.phaser_core.specs.Cells.{sums}
use Rattle.phaser_core.specs.Views.{ready_reading, writer_zero}
use Rattle.phaser_core.specs.CoreMoves.{Move, entering, loading, adding, leaving, swapping, clearing, flipping, looking, taking, looking_stop, raising_stop, raising_as_reporter, stepped_words, stepped_views, splitting, split_off, joining, no_one, first_words}

-- words and views
abbrev pub CoreState : Type 0
CoreState = List ℕ × List View

-- which actor moves: the reporter at port 0, writer w at port w + 1
abbrev pub port_of : Event → ℕ
port_of (event.Enter w) = w + 1
port_of (event.Load w e) = w + 1
port_of (event.Add w) = w + 1
port_of (event.Lower w) = w + 1
port_of (event.Raise w) = w + 1
port_of (event.Exit w) = w + 1
port_of (event.LookStop w) = w + 1
port_of (event.RaiseStop w) = w + 1
port_of _ = 0

abbrev pub given : Bool → Move → Option Move
given true m = Some m
given false m = None

-- a writer's steps, by its stage
abbrev pub writer_move : Numbers → Event → WriterView → Stage → Option Move
writer_move n (event.Enter x) w Out = given (nat_lt (length w.list) n.budget) (entering w)
writer_move n (event.Load x e) w (In p) = given (nat_lt e.label n.labels) (loading w p e)
writer_move n (event.Add x) w (On p m e d) = given (nat_lt d (3 + one_if (not e.ok))) (adding n.labels w p m e d)
writer_move n (event.Lower x) w (On p m e d) = given (d == 3 + one_if (not e.ok)) (adding n.labels w p m e d)
writer_move n (event.Raise x) w (On p m e d) = given (d == 4 + one_if (not e.ok)) (adding n.labels w p m e d)
writer_move n (event.Exit x) w (On p m e d) = given (d == sums e) (leaving w p m e)
writer_move n (event.LookStop x) w Out = Some (looking_stop w)
writer_move n (event.RaiseStop x) w Out = Some (raising_stop w)
writer_move n _ w _ = None

-- the reporter's steps, by how far it is
abbrev pub reporter_move : Event → ReporterView → ReporterStage → Option Move
reporter_move event.SwapActive r Idle = given (nat_lt r.interval 16777216) (swapping r)
reporter_move event.ClearEnd r Swapped = Some (clearing r)
reporter_move event.Flip r Cleared = Some (flipping r)
reporter_move event.Look r (Waiting want) = Some (looking r want)
reporter_move event.Take r (Harvest j) = Some (taking r j)
reporter_move event.ReporterStop r Idle = Some (raising_as_reporter r)
reporter_move _ r _ = None

abbrev pub move_of : Numbers → Event → View → Option Move
move_of n e (Reporter r) = reporter_move e r r.closing
move_of n e (Writer w) = writer_move n e w w.stage
move_of n e Gone = None

abbrev pub move_at : Numbers → Event → maybe.Option View → Option Move
move_at n e none = None
move_at n e (some v) = move_of n e v

abbrev pub moved : List ℕ → List View → ℕ → Option Move → Option CoreState
moved words views port None = None
moved words views port (Some m) = Some (stepped_words words m, stepped_views words views port m)

-- writer 0, at port 1, makes a further writer where it is out and not all are made
abbrev pub split_if : Bool → List ℕ → List View → View → Option CoreState
split_if true words views v = Some (words, slice_set views 1 (splitting v) ++ split_off v ∷ [])
split_if false words views v = None

abbrev pub split_stage : Numbers → List ℕ → List View → WriterView → Stage → Option CoreState
split_stage n words views w Out = split_if (nat_lt w.made n.writers) words views (Writer w)
split_stage n words views w (In p) = None
split_stage n words views w (On p m e d) = None

abbrev pub split_at : Numbers → List ℕ → List View → maybe.Option View → Option CoreState
split_at n words views (some (Writer w)) = split_stage n words views w w.stage
split_at n words views (some (Reporter r)) = None
split_at n words views (some Gone) = None
split_at n words views none = None

-- the reporter, where it is idle, takes in a writer that is out
abbrev pub join_stage : List ℕ → List View → ℕ → ReporterView → ReporterStage → WriterView → Stage → Option CoreState
join_stage words views port r Idle w Out = Some (words, slice_set (slice_set views 0 (joining (Reporter r) (Writer w))) port no_one)
join_stage words views port r _ w _ = None

abbrev pub join_at : List ℕ → List View → ℕ → maybe.Option View → maybe.Option View → Option CoreState
join_at words views port (some (Reporter r)) (some (Writer w)) = join_stage words views port r r.closing w w.stage
join_at words views port _ _ = None

-- The table of the steps; an event that is not enabled has no case.
abbrev pub core_step : Numbers → List ℕ → List View → Event → Option CoreState
core_step n words views event.Split = split_at n words views (get_elem? views 1)
core_step n words views (event.Join w) = join_at words views (w + 1) (get_elem? views 0) (get_elem? views (w + 1))
core_step n words views e = moved words views (port_of e) (move_at n e (get_elem? views (port_of e)))

-- at first there are the reporter and writer 0
abbrev pub first_state : Numbers → CoreState
first_state n = (first_words n.labels, Reporter (ready_reading n.labels) ∷ writer_zero ∷ [])

-- the state after an event: as before where it is not enabled
abbrev pub next_state : Numbers → CoreState → Event → CoreState
next_state n s e = unwrap_or (core_step n s.0 s.1 e) s

-- the state after a list of events
abbrev pub after_all : Numbers → CoreState → List Event → CoreState
after_all n s [] = s
after_all n s (e ∷ es) = after_all n (next_state n s e) es

-- the numbers of an event's entry are those of 32 bits
abbrev pub FitsEvent : Event → Type 0
FitsEvent (event.Load w e) = (e.elapsed < 4294967296) × (e.bytes < 4294967296)
FitsEvent _ = Unit {0}

abbrev pub AllFit : List Event → Type 0
AllFit [] = Unit {0}
AllFit (e ∷ es) = FitsEvent e × AllFit es
