-- The entries of an interval, and how traces and reports fit together.
use Rattle.std.specs.Prelude.{◌≡◌, ℕ, zero, suc, ◌-◌, ◌*◌, ◌<◌, ◌≤◌, ◌==◌, List, [], ◌∷◌, ◌++◌, length, filter, map, slice_index_or}
use Rattle.jm_base.specs.declared.types.Entry.{Entry}
use Rattle.interval_tables.specs.declared.report.Report.{Report}
use Rattle.jm_base.specs.SumTotals.{total}
use Rattle.interval_tables.specs.declared.row.Row.{Row}
use Rattle.interval_tables.specs.Rows.{sum_of, AllLabels, IsInBounds, merged_rows}
use Rattle.phaser_core.specs.declared.view.Numbers.{Numbers}
use Rattle.phaser_core.specs.declared.view.Joined.{Joined}
use Rattle.phaser_core.specs.declared.view.ReporterView.{ReporterView}
use Rattle.phaser_core.specs.declared.view.View.{View}
use Rattle.phaser_core.specs.declared.view.View.TheVariants.{Reporter, Writer, Gone}
use Rattle.phaser_core.specs.Cells.{column_at, cell_of, no_report}
use Rattle.interval_tables.proofs.Bounds.{AllSmall as AllSmallEntries}
use Rattle.phaser_core.specs.Views.{Pair}

-- the entries of a list with the interval m
abbrev pub entries_of : ℕ → List Pair → List Entry
entries_of m l = map (λ x. x.1) (filter (λ x. x.0 == m) l)

abbrev pub joined_share : ℕ → List Joined → List Entry
joined_share m [] = []
joined_share m (j ∷ js) = entries_of m j.list ++ joined_share m js

abbrev pub view_share : ℕ → View → List Entry
view_share m (Reporter r) = joined_share m r.joined
view_share m (Writer w) = entries_of m w.list
view_share m Gone = []

-- all entries with the interval m over all views, joined writers among them
abbrev pub share_of : ℕ → List View → List Entry
share_of m [] = []
share_of m (v ∷ vs) = view_share m v ++ share_of m vs

-- Intervals of a list

abbrev pub AllUpTo : ℕ → List Pair → Type 0
AllUpTo a [] = Unit {0}
AllUpTo a (x ∷ xs) = (x.0 ≤ a) × AllUpTo a xs

abbrev pub AllFrom : ℕ → List Pair → Type 0
AllFrom a [] = Unit {0}
AllFrom a (x ∷ xs) = (a ≤ x.0) × AllFrom a xs

-- the intervals never fall
abbrev pub Rising : List Pair → Type 0
Rising [] = Unit {0}
Rising (x ∷ xs) = AllFrom x.0 xs × Rising xs

abbrev pub AllInRange : ℕ → List Pair → Type 0
AllInRange labels [] = Unit {0}
AllInRange labels (x ∷ xs) = (x.1.label < labels) × AllInRange labels xs

-- the entries with the interval m over several lists
abbrev pub entries_in : ℕ → List (List Pair) → List Entry
entries_in m [] = []
entries_in m (l ∷ ls) = entries_of m l ++ entries_in m ls

-- in each list the intervals never fall, and none is past the last
abbrev pub AllTimed : ℕ → List (List Pair) → Type 0
AllTimed last [] = Unit {0}
AllTimed last (l ∷ ls) = (Rising l × AllUpTo last l) × AllTimed last ls

-- Every entry of the lists counts in exactly one report: report m is that of interval m, and sums all entries with that interval.
pub record Partition (labels : ℕ) (lists : List (List Pair)) (reports : List Report) : Type 0 where
  pub some : 0 < length reports
  pub timed : AllTimed (length reports - 1) lists
  pub sums : (m : ℕ) → m < length reports → slice_index_or reports m no_report ≡ record { interval = m; rows = sum_of labels (entries_in m lists) }

-- the rows with those of reports, one report after the other
abbrev pub merged_from : List Row → List Report → List Row
merged_from rows [] = rows
merged_from rows (r ∷ rs) = merged_from (merged_rows rows r.rows) rs

-- the rows of all reports together
abbrev pub rows_of_all : ℕ → List Report → List Row
rows_of_all labels reports = merged_from (sum_of labels []) reports

-- Each closed report of the reporter is the sum of some list of entries with labels in range, and these lists have together no more entries than all writers may record. So each is in bounds, and so are all together.
pub record SumsOfLists (n : Numbers) (r : ReporterView) : Type 0 where
  pub lists : List (List Entry)
  pub count : length lists ≡ length r.closed
  pub few : total (λ (l : List Entry). length l) lists ≤ n.writers * n.budget
  pub labels : (m : ℕ) → m < length r.closed → AllLabels n.labels (slice_index_or lists m [])
  pub sums : (m : ℕ) → m < length r.closed → slice_index_or r.closed m no_report ≡ record { interval = m; rows = sum_of n.labels (slice_index_or lists m []) }
  pub bounds : (m : ℕ) → m < length r.closed → IsInBounds (slice_index_or r.closed m no_report).rows
  pub together : IsInBounds (rows_of_all n.labels r.closed)

-- the entries of the first stripes
abbrev pub stripes_to : (ℕ → List Entry) → ℕ → List Entry
stripes_to stripes zero = []
stripes_to stripes (suc s) = stripes_to stripes s ++ stripes s

-- Of a table's cells, which f gives in word order, the first `count` hold what some entries fold to, stripe by stripe. These entries' labels are in range, their numbers those of 32 bits, and together they are no more than all writers may record.
pub record SumsOfStripes (labels count : ℕ) (f : ℕ → ℕ) : Type 0 where
  pub stripes : ℕ → List Entry
  pub few : length (stripes_to stripes 4) ≤ 4194304
  pub in_range : (s : ℕ) → AllLabels labels (stripes s)
  pub small : (s : ℕ) → AllSmallEntries (stripes s)
  pub cells : (s l c : ℕ) → s < 4 → l < labels → c < 6 → cell_of labels s l c < count → f (cell_of labels s l c) ≡ column_at c l (stripes s)
