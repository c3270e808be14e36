-- What the views of all actors say: who is inside, what was recorded, and how far the reporter is.
use Rattle.std.specs.Prelude.{◌≡◌, ℕ, ◌+◌, ◌*◌, ◌%◌, ◌<◌, ◌≤◌, ◌==◌, not, Bool, true, false, List, [], length}
use Rattle.jm_base.specs.declared.types.Entry.{Entry}
use Rattle.jm_base.specs.SumTotals.{total, one_if}
use Rattle.phaser_core.specs.declared.view.Numbers.{Numbers}
use Rattle.phaser_core.specs.declared.view.Stage.{Stage}
use Rattle.phaser_core.specs.declared.view.Stage.TheVariants.{Out, In, On}
use Rattle.phaser_core.specs.declared.view.WriterView.{WriterView}
use Rattle.phaser_core.specs.declared.view.Joined.{Joined}
use Rattle.phaser_core.specs.declared.view.ReporterStage.{ReporterStage}
use Rattle.phaser_core.specs.declared.view.ReporterStage.TheVariants.{Idle, Swapped, Cleared, Waiting, Harvest}
use Rattle.phaser_core.specs.declared.view.ReporterView.{ReporterView}
use Rattle.phaser_core.specs.declared.view.View.{View}
use Rattle.phaser_core.specs.declared.view.View.TheVariants.{Reporter, Writer, Gone}
use Rattle.phaser_core.specs.Cells.{is_odd, same, vacant, combine, gather, pick, adds, done}

-- an entry with its interval
abbrev pub Pair : Type 0
Pair = ℕ × Entry

-- the limits of a recorder's numbers
abbrev pub IsSized : Numbers → Type 0
IsSized n = (n.labels ≤ 256) × (1 ≤ n.writers) × (n.writers ≤ 64) × (n.writers * n.budget ≤ 4194304)

-- Writers

abbrev pub stage_inside : Bool → Stage → ℕ
stage_inside p Out = 0
stage_inside p (In q) = one_if (same p q)
stage_inside p (On q m e d) = one_if (same p q)

-- 1 where a writer is inside with the parity p
abbrev pub inside : Bool → View → ℕ
inside p (Reporter r) = 0
inside p (Writer w) = stage_inside p w.stage
inside p Gone = 0

abbrev pub busy : Stage → ℕ
busy Out = 0
busy (In q) = 1
busy (On q m e d) = 1

-- the entries of a view, and one more for a writer that is inside
abbrev pub uses : View → ℕ
uses (Reporter r) = total (λ (j : Joined). length j.list) r.joined
uses (Writer w) = length w.list + busy w.stage
uses Gone = 0

-- how often the writer of this number stands in a view, alive or joined
abbrev pub holders : ℕ → View → ℕ
holders q (Reporter r) = total (λ (j : Joined). one_if (j.number == q)) r.joined
holders q (Writer w) = one_if (w.number == q)
holders q Gone = 0

-- how many writers a view stands for
abbrev pub heads : View → ℕ
heads (Reporter r) = length r.joined
heads (Writer w) = 1
heads Gone = 0

abbrev pub at_stage : WriterView → Stage → List Pair → WriterView
at_stage w s l = record { number = w.number; list = l; stage = s; made = w.made; raised = w.raised; saw = w.saw }

-- writer 0 as it is made, and a further one
abbrev pub writer_zero : View
writer_zero = Writer record { number = 0; list = []; stage = Out; made = 1; raised = false; saw = false }

abbrev pub further : ℕ → View
further number = Writer record { number = number; list = []; stage = Out; made = 0; raised = false; saw = false }

-- what a writer leaves when it is joined
abbrev pub left_of : WriterView → Joined
left_of w = record { number = w.number; list = w.list; made = w.made; raised = w.raised; saw = w.saw }

-- The reporter

-- 1 once the start word is turned, and 1 once the next interval is active
abbrev pub turned : ReporterStage → ℕ
turned Idle = 0
turned Swapped = 0
turned Cleared = 0
turned (Waiting want) = 1
turned (Harvest j) = 1

abbrev pub pending : ReporterStage → ℕ
pending Idle = 0
pending Swapped = 1
pending Cleared = 1
pending (Waiting want) = 1
pending (Harvest j) = 1

-- the current parity, and the other
abbrev pub current : ReporterView → Bool
current r = is_odd (r.interval + turned r.closing)

abbrev pub other : ReporterView → Bool
other r = not (current r)

-- the interval that samples enter
abbrev pub active : ReporterView → ℕ
active r = r.interval + pending r.closing

-- how many cells were taken
abbrev pub taken_count : ReporterStage → ℕ
taken_count (Harvest j) = j
taken_count Idle = 0
taken_count Swapped = 0
taken_count Cleared = 0
taken_count (Waiting want) = 0

abbrev pub at_closing : ReporterView → ReporterStage → ReporterView
at_closing r c = record r { closing = c }

-- the reporter alone, and once writer 0 is made
abbrev pub first_reading : ℕ → ReporterView
first_reading labels = record { labels = labels; interval = 0; closing = Idle; joined = []; ready = false; cells = []; closed = []; seen = 0; raised = false }

abbrev pub ready_reading : ℕ → ReporterView
ready_reading labels = record { labels = labels; interval = 0; closing = Idle; joined = []; ready = true; cells = []; closed = []; seen = 0; raised = false }

-- how many writers were made, as writer 0 knew when it was joined; 0 before
abbrev pub made_known : List Joined → ℕ
made_known js = total (λ (j : Joined). j.made) js

-- writer 0 and every writer that it made are joined
abbrev pub AllJoined : ReporterView → Type 0
AllJoined r = (0 < made_known r.joined) × (length r.joined ≡ made_known r.joined)

-- What the views contribute to the cells

-- an entry of a writer's list, to cell j of the interval i
abbrev pub entry_at : ℕ → ℕ → ℕ → ℕ → Pair → ℕ
entry_at labels w i j x = pick (x.0 == i) (adds labels w j x.1) (vacant (j % 6))

-- the steps done of a writer's stage
abbrev pub stage_at : ℕ → ℕ → ℕ → ℕ → Stage → ℕ
stage_at labels w i j Out = vacant (j % 6)
stage_at labels w i j (In p) = vacant (j % 6)
stage_at labels w i j (On p m e d) = pick (m == i) (done labels w (not e.ok) j e d) (vacant (j % 6))

abbrev pub list_at : ℕ → ℕ → ℕ → ℕ → List Pair → ℕ
list_at labels w i j l = gather (j % 6) (entry_at labels w i j) l

-- the joined writers' lists
abbrev pub joined_at : ℕ → ℕ → ℕ → List Joined → ℕ
joined_at labels i j js = gather (j % 6) (λ (x : Joined). list_at labels x.number i j x.list) js

abbrev pub value : ℕ → ℕ → ℕ → View → ℕ
value labels i j (Reporter r) = joined_at labels i j r.joined
value labels i j (Writer w) = combine (j % 6) (list_at labels w.number i j w.list) (stage_at labels w.number i j w.stage)
value labels i j Gone = vacant (j % 6)

-- what all views contribute to cell j of the interval i: its initial value, folded with their contributions
abbrev pub worth : ℕ → ℕ → ℕ → List View → ℕ
worth labels i j views = gather (j % 6) (value labels i j) views
