-- How far the closing of an interval is, and what the reporter knew before it and knows after it.
use Rattle.std.specs.Prelude.{◌≡◌, ℕ, ◌+◌, ◌-◌, ◌==◌, ◌&&◌, Bool, true, false, List, [], ◌∷◌, ◌++◌, length, take}
use Rattle.interval_tables.specs.declared.report.Report.{Report}
use Rattle.phaser_core.specs.declared.view.ReporterStage.{ReporterStage}
use Rattle.phaser_core.specs.declared.view.ReporterStage.TheVariants.{Idle, Swapped, Cleared, Waiting, Harvest}
use Rattle.phaser_core.specs.declared.view.ReporterView.{ReporterView}
use Rattle.phaser_core.specs.Views.{made_known}

abbrev pub is_idle : ReporterStage → Bool
is_idle Idle = true
is_idle Swapped = false
is_idle Cleared = false
is_idle (Waiting want) = false
is_idle (Harvest j) = false

abbrev pub is_waiting : ReporterStage → Bool
is_waiting Idle = false
is_waiting Swapped = false
is_waiting Cleared = false
is_waiting (Waiting want) = true
is_waiting (Harvest j) = false

-- the first cell is the next to take
abbrev pub is_begun : ReporterStage → Bool
is_begun Idle = false
is_begun Swapped = false
is_begun Cleared = false
is_begun (Waiting want) = false
is_begun (Harvest j) = j == 0

abbrev pub is_none : List ℕ → Bool
is_none [] = true
is_none (x ∷ xs) = false

-- settled: with labels, about to take the first cell; without, closed
abbrev pub stands_settled : Bool → ReporterView → Bool
stands_settled true r = is_idle r.closing
stands_settled false r = is_begun r.closing && is_none r.cells

abbrev pub stands : Bool → ReporterView → Bool
stands false r = is_waiting r.closing
stands true r = stands_settled (r.labels == 0) r

-- the reporter with one more report, idle again
abbrev pub closed_as : ReporterView → Report → ReporterView
closed_as r report = record r { interval = r.interval + 1; closing = Idle; cells = []; closed = r.closed ++ report ∷ []; seen = 0 }

-- the reporter without its last report
abbrev pub reopened : ReporterView → ReporterView
reopened r = record r { interval = r.interval - 1; closing = Idle; cells = []; closed = take (length r.closed - 1) r.closed }

abbrev pub reopened_if : Bool → ReporterView → ReporterView
reopened_if true r = reopened r
reopened_if false r = r

-- What the reporter knew when it began to close the interval. Without labels a closing that settled has the report already.
abbrev pub before : Bool → ReporterView → ReporterView
before settled r = reopened_if (settled && (r.labels == 0)) r

abbrev pub report_without_rows : ℕ → Report
report_without_rows interval = record { interval = interval; rows = [] }

-- the report that a closing without labels has already
abbrev pub HasClosed : Bool → ReporterView → Type 0
HasClosed settled r = settled ≡ true → r.labels ≡ 0 → r ≡ closed_as (reopened r) (report_without_rows (r.interval - 1))

-- the same interval, reports, lists and marks
abbrev pub Same : ReporterView → ReporterView → Type 0
Same r s = (s.labels ≡ r.labels) × (s.interval ≡ r.interval) × (s.joined ≡ r.joined) × (s.ready ≡ r.ready) × (s.closed ≡ r.closed) × (s.raised ≡ r.raised)

abbrev pub open_if : Bool → ℕ → ℕ → ℕ
open_if true made joined = 1
open_if false made joined = made - joined

-- how many writers are not joined yet; 1 until writer 0 is, who knows how many it made
abbrev pub open_count : ReporterView → ℕ
open_count r = open_if (made_known r.joined == 0) (made_known r.joined) (length r.joined)
