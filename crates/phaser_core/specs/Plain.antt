-- What the core keeps of the views, and its steps on that.
use Rattle.std.specs.Prelude.{◌≡◌, ℕ, zero, suc, ◌+◌, ◌%◌, ◌^◌, ◌<◌, ◌≤◌, ◌==◌, ◌&&◌, not, Bool, true, false, min, max, List, [], ◌∷◌, ◌++◌, length, Option, Some, None, nat_lt, slice_index, slice_index_or, slice_set}
use Rattle.jm_base.specs.declared.types.Entry.{Entry}
use Rattle.interval_tables.specs.declared.report.Report.{Report}
use Rattle.jm_base.specs.SumTotals.{one_if}
use Rattle.phaser_core.specs.declared.view.Numbers.{Numbers}
use Rattle.phaser_core.specs.declared.view.Stage.{Stage}
use Rattle.phaser_core.specs.declared.view.Stage.TheVariants.{Out, In, On}
use Rattle.phaser_core.specs.declared.view.Event.{Event}
use Rattle.phaser_core.specs.declared.view.Event.TheVariants as event
use Rattle.phaser_core.specs.declared.step.Change.{Change}
use Rattle.phaser_core.specs.declared.step.Change.TheVariants.{Load, Add, Least, Greatest, Swap}
use Rattle.phaser_core.specs.declared.step.Step.{Step}
use Rattle.phaser_core.specs.declared.writer.WriterState.{WriterState}
use Rattle.phaser_core.specs.declared.writer.WriterState.TheVariants.{Live, Gone}
use Rattle.phaser_core.specs.declared.view.ReporterStage.{ReporterStage}
use Rattle.phaser_core.specs.declared.view.ReporterStage.TheVariants.{Idle, Swapped, Cleared, Waiting, Harvest}
use Rattle.phaser_core.specs.declared.applied.Applied.{Applied}
use Rattle.phaser_core.specs.declared.applied.Applied.TheVariants.{Old, Settled, NotYet, NotEnabled}
use Rattle.phaser_core.specs.Cells.{is_odd, end_at, initial, phase, place, sums, column, table_cells, cell_at, vacant, word_count, report_of}
use Rattle.phaser_core.specs.Views.{IsSized, busy, pending, taken_count}
use Rattle.phaser_core.specs.Invariant.{InTable}

abbrev pub changed : Change → ℕ → ℕ
changed Load n = n
changed (Add k) n = (n + k) % 2 ^ 64
changed (Least k) n = min n k
changed (Greatest k) n = max n k
changed (Swap k) n = k

-- what the step on a column's cell does
abbrev pub cell_change : ℕ → Entry → Change
cell_change zero e = Add 1
cell_change (suc zero) e = Add (one_if (not e.ok))
cell_change (suc (suc zero)) e = Add e.elapsed
cell_change (suc (suc (suc zero))) e = Add e.bytes
cell_change (suc (suc (suc (suc zero)))) e = Least e.elapsed
cell_change (suc (suc (suc (suc (suc c))))) e = Greatest e.elapsed

abbrev pub step_if : Bool → ℕ → Change → Option Step
step_if true word change = Some (record { word = word; change = change })
step_if false word change = None

-- a step on a writer's cell
abbrev pub cell_step : ℕ → ℕ → ℕ → Entry → ℕ → Bool → Option Step
cell_step labels number m e d enabled = step_if enabled (place labels (m % 2) number e.label (column e d)) (cell_change (column e d) e)

-- the steps that a stage enables
abbrev pub out_step : ℕ → ℕ → Event → Option Step
out_step budget entries (event.Enter x) = step_if (nat_lt entries budget) 1 (Add 1)
out_step budget entries (event.LookStop x) = step_if true 4 Load
out_step budget entries (event.RaiseStop x) = step_if true 4 (Swap 1)
out_step budget entries _ = None

abbrev pub in_step : ℕ → Event → Option Step
in_step labels (event.Load x e) = step_if (nat_lt e.label labels) 0 Load
in_step labels _ = None

abbrev pub on_step : ℕ → ℕ → Bool → ℕ → Entry → ℕ → Event → Option Step
on_step labels number p m e d (event.Add x) = cell_step labels number m e d (nat_lt d (3 + one_if (not e.ok)))
on_step labels number p m e d (event.Lower x) = cell_step labels number m e d (d == 3 + one_if (not e.ok))
on_step labels number p m e d (event.Raise x) = cell_step labels number m e d (d == 4 + one_if (not e.ok))
on_step labels number p m e d (event.Exit x) = step_if (d == sums e) (end_at p) (Add 1)
on_step labels number p m e d _ = None

abbrev pub stage_step : Numbers → ℕ → ℕ → Event → Stage → Option Step
stage_step n number entries e Out = out_step n.budget entries e
stage_step n number entries e (In p) = in_step n.labels e
stage_step n number entries e (On p m x d) = on_step n.labels number p m x d e

abbrev pub writer_step : Numbers → Event → WriterState → Option Step
writer_step n e (Live number stage entries made) = stage_step n number entries e stage
writer_step n e Gone = None

-- the stage after a step that found this number
abbrev pub on_after : Bool → ℕ → Entry → ℕ → Event → Stage
on_after p m x d (event.Exit w) = Out
on_after p m x d _ = On p m x (d + 1)

abbrev pub in_after : Bool → ℕ → Event → Stage
in_after p found (event.Load w e) = On p found e 0
in_after p found _ = In p

abbrev pub out_after : ℕ → Event → Stage
out_after found (event.Enter w) = In (phase found)
out_after found _ = Out

abbrev pub stage_after : Event → ℕ → Stage → Stage
stage_after e found Out = out_after found e
stage_after e found (In p) = in_after p found e
stage_after e found (On p m x d) = on_after p m x d e

-- an exit records an entry
abbrev pub entries_after : Event → ℕ → ℕ
entries_after (event.Exit w) entries = entries + 1
entries_after _ entries = entries

abbrev pub writer_after : Event → ℕ → WriterState → WriterState
writer_after e found (Live number stage entries made) = Live number (stage_after e found stage) (entries_after e entries) made
writer_after e found Gone = Gone

-- the numbers of a writer are in their ranges
abbrev pub FitsStage : ℕ → Stage → Type 0
FitsStage labels Out = Unit {0}
FitsStage labels (In p) = Unit {0}
FitsStage labels (On p m e d) = (e.label < labels) × (d ≤ sums e)

abbrev pub FitsWriter : Numbers → WriterState → Type 0
FitsWriter n (Live number stage entries made) = FitsStage n.labels stage × (entries + busy stage ≤ n.budget)
FitsWriter n Gone = Unit {0}

-- a further step can be counted
abbrev pub CanGoOn : Stage → Type 0
CanGoOn Out = Unit {0}
CanGoOn (In p) = Unit {0}
CanGoOn (On p m e d) = d ≤ 6

-- of every writer
abbrev pub AllFitWriters : Numbers → List WriterState → Type 0
AllFitWriters n [] = Unit {0}
AllFitWriters n (w ∷ ws) = FitsWriter n w × AllFitWriters n ws

-- a writer that is not there is gone
abbrev pub writer_at : List WriterState → ℕ → WriterState
writer_at ws i = slice_index_or ws i Gone

-- the answer, the words and the writers after a step
abbrev pub step_answer : Option Step → List ℕ → Applied
step_answer None words = NotEnabled
step_answer (Some s) words = Old (slice_index words s.word)

abbrev pub words_after : Option Step → List ℕ → List ℕ
words_after None words = words
words_after (Some s) words = slice_set words s.word (changed s.change (slice_index words s.word))

abbrev pub writers_after : Option Step → Event → ℕ → List ℕ → List WriterState → List WriterState
writers_after None e i words ws = ws
writers_after (Some s) e i words ws = slice_set ws i (writer_after e (slice_index words s.word) (writer_at ws i))

-- the reporter's steps but for Look and Take
abbrev pub closing_step : ℕ → Event → ReporterStage → Option Step
closing_step interval event.SwapActive Idle = step_if (nat_lt interval 16777216) 0 (Swap (interval + 1))
closing_step interval event.ReporterStop Idle = step_if true 4 (Swap 1)
closing_step interval event.ClearEnd Swapped = step_if true (end_at (is_odd (interval + 1))) (Swap (initial (is_odd (interval + 1))))
closing_step interval event.Flip Cleared = step_if true 1 (Swap (initial (is_odd (interval + 1))))
closing_step interval _ _ = None

abbrev pub closing_after : Event → ℕ → ReporterStage → ReporterStage
closing_after event.SwapActive found c = Swapped
closing_after event.ClearEnd found c = Cleared
closing_after event.Flip found c = Waiting found
closing_after _ found c = c

abbrev pub closing_if : Option Step → Event → List ℕ → ReporterStage → ReporterStage
closing_if None e words c = c
closing_if (Some s) e words c = closing_after e (slice_index words s.word) c

-- The reporter's part: the interval that is being closed or that is active, how far it is, the cells taken, the closed reports.
pub record Parts : Type 0 where
  pub interval : ℕ
  pub closing : ReporterStage
  pub taken : List ℕ
  pub closed : List Report

-- with j cells taken: the report is closed, or more are to be taken
abbrev pub gathered_parts_if : Bool → ℕ → ℕ → Parts → Parts
gathered_parts_if true labels j p = record { interval = p.interval + 1; closing = Idle; taken = []; closed = p.closed ++ report_of labels p.interval p.taken ∷ [] }
gathered_parts_if false labels j p = record { interval = p.interval; closing = Harvest j; taken = p.taken; closed = p.closed }

abbrev pub gathered_parts : ℕ → ℕ → Parts → Parts
gathered_parts labels j p = gathered_parts_if (j == table_cells labels) labels j p

-- the part with these cells taken
abbrev pub with_taken : Parts → List ℕ → Parts
with_taken p cells = record { interval = p.interval; closing = p.closing; taken = cells; closed = p.closed }

-- the answer to a look, and the part after it
abbrev pub looked : Bool → ℕ → Parts → Parts
looked true labels p = gathered_parts labels 0 (with_taken p [])
looked false labels p = p

abbrev pub look_answer : Bool → ℕ → ℕ → Applied
look_answer true found want = Settled
look_answer false found want = NotYet found want

abbrev pub look_result : ReporterStage → ℕ → Applied
look_result (Waiting want) found = look_answer (found == want) found want
look_result _ found = NotEnabled

abbrev pub look_parts : ReporterStage → ℕ → ℕ → Parts → Parts
look_parts (Waiting want) found labels p = looked (found == want) labels p
look_parts _ found labels p = p

abbrev pub take_result : ReporterStage → ℕ → List ℕ → Parts → Applied
take_result (Harvest j) labels words p = Old (slice_index words (cell_at labels p.interval j))
take_result _ labels words p = NotEnabled

abbrev pub take_words : ReporterStage → ℕ → List ℕ → Parts → List ℕ
take_words (Harvest j) labels words p = slice_set words (cell_at labels p.interval j) (vacant (j % 6))
take_words _ labels words p = words

abbrev pub take_parts : ReporterStage → ℕ → List ℕ → Parts → Parts
take_parts (Harvest j) labels words p = gathered_parts labels (j + 1) (with_taken p (p.taken ++ slice_index words (cell_at labels p.interval j) ∷ []))
take_parts _ labels words p = p

-- the part after a step of its own on another word
abbrev pub with_closing : Parts → ReporterStage → Parts
with_closing p c = record { interval = p.interval; closing = c; taken = p.taken; closed = p.closed }

-- The numbers of the part are in their ranges.
pub record FitsParts (labels : ℕ) (p : Parts) : Type 0 where
  pub room : p.interval + pending p.closing ≤ 16777216
  pub in_table : InTable (table_cells labels) p.closing
  pub count : length p.taken ≡ taken_count p.closing

-- The numbers of a core are in their ranges, so that each step finds its word and its writer.
pub record IsCoherent (n : Numbers) (words : List ℕ) (writers : List WriterState) (p : Parts) : Type 0 where
  pub sized : IsSized n
  pub wide : length words ≡ word_count n.labels
  pub fit : AllFitWriters n writers
  pub parts : FitsParts n.labels p

-- writer 0 after it made a further writer, and that writer
abbrev pub split_if : Bool → ℕ → ℕ → ℕ → Option (WriterState × WriterState)
split_if true number entries made = Some (Live number Out entries (made + 1), Live made Out 0 0)
split_if false number entries made = None

abbrev pub split_of : Numbers → WriterState → Option (WriterState × WriterState)
split_of n (Live number Out entries made) = split_if (nat_lt made n.writers) number entries made
split_of n (Live number (In p) entries made) = None
split_of n (Live number (On p m e d) entries made) = None
split_of n Gone = None

abbrev pub pair_result : Option (WriterState × WriterState) → List ℕ → Applied
pair_result None words = NotEnabled
pair_result (Some p) words = Old (slice_index words 0)

abbrev pub pair_writers : Option (WriterState × WriterState) → List WriterState → List WriterState
pair_writers None ws = ws
pair_writers (Some p) ws = slice_set ws 0 p.0 ++ p.1 ∷ []

abbrev pub split_result : Numbers → WriterState → List ℕ → Applied
split_result n w words = pair_result (split_of n w) words

abbrev pub split_writers : Numbers → WriterState → List WriterState → List WriterState
split_writers n w ws = pair_writers (split_of n w) ws

-- a writer that is out is joined by an idle reporter
abbrev pub is_idle : ReporterStage → Bool
is_idle Idle = true
is_idle Swapped = false
is_idle Cleared = false
is_idle (Waiting want) = false
is_idle (Harvest j) = false

abbrev pub is_out : WriterState → Bool
is_out (Live number Out entries made) = true
is_out (Live number (In p) entries made) = false
is_out (Live number (On p m e d) entries made) = false
is_out Gone = false

abbrev pub old_if : Bool → List ℕ → Applied
old_if true words = Old (slice_index words 0)
old_if false words = NotEnabled

abbrev pub gone_if : Bool → ℕ → List WriterState → List WriterState
gone_if true i ws = slice_set ws i Gone
gone_if false i ws = ws

abbrev pub can_join : ReporterStage → WriterState → Bool
can_join c w = is_idle c && is_out w

abbrev pub join_result : ReporterStage → WriterState → List ℕ → Applied
join_result c w words = old_if (can_join c w) words

abbrev pub join_writers : ReporterStage → WriterState → ℕ → List WriterState → List WriterState
join_writers c w i ws = gone_if (can_join c w) i ws
