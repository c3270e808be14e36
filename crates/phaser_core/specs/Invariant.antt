-- What holds between any two steps, in every order of the steps of all actors.
use Rattle.std.specs.Prelude.{◌≡◌, ℕ, ◌+◌, ◌%◌, ◌<◌, ◌≤◌, Bool, false, List, [], ◌∷◌, length, slice_index, slice_index_or, nat_lt}
use mathlib.Core.Option.{some}
use lib.ListN.{get_elem?}
use Rattle.jm_base.specs.SumTotals.{total, one_if}
use Rattle.interval_tables.specs.Rows.{sum_of}
use Rattle.phaser_core.specs.declared.view.Numbers.{Numbers}
use Rattle.phaser_core.specs.declared.view.Stage.{Stage}
use Rattle.phaser_core.specs.declared.view.Stage.TheVariants.{Out, In, On}
use Rattle.phaser_core.specs.declared.view.Joined.{Joined}
use Rattle.phaser_core.specs.declared.view.ReporterStage.{ReporterStage}
use Rattle.phaser_core.specs.declared.view.ReporterStage.TheVariants.{Idle, Swapped, Cleared, Waiting, Harvest}
use Rattle.phaser_core.specs.declared.view.ReporterView.{ReporterView}
use Rattle.phaser_core.specs.declared.view.View.{View}
use Rattle.phaser_core.specs.declared.view.View.TheVariants.{Reporter, Writer, Gone}
use Rattle.phaser_core.specs.Cells.{end_at, initial, phase, vacant, sums, table_cells, word_count, cell_at, no_report}
use Rattle.phaser_core.specs.Views.{Pair, IsSized, inside, busy, uses, holders, heads, pending, current, other, active, taken_count, worth}
use Rattle.phaser_core.specs.Shares.{share_of, AllUpTo, Rising, AllInRange}
use Rattle.phaser_core.specs.CoreMoves.{stepped_words, stepped_views, Move}

-- Who is inside with the other parity: x is the number of them, e its end word, i what that begins with, t how many entries there are.
-- None, but while the reporter waits: then `want` less the end word of them.
abbrev pub InsideBefore : ReporterStage → ℕ → ℕ → ℕ → ℕ → Type 0
InsideBefore Idle x e i t = x ≡ 0
InsideBefore Swapped x e i t = x ≡ 0
InsideBefore Cleared x e i t = (x ≡ 0) × (e ≡ i)
InsideBefore (Waiting want) x e i t = (x + e ≡ want) × (want ≤ i + t)
InsideBefore (Harvest j) x e i t = x ≡ 0

-- The interval m of a writer inside with the parity p, where k is the interval that closes and c the current parity.
abbrev pub MayCount : ReporterStage → ℕ → Bool → Bool → ℕ → Type 0
MayCount Idle k c p m = m ≡ k
MayCount Swapped k c p m = (k ≤ m) × (m ≤ k + 1)
MayCount Cleared k c p m = (k ≤ m) × (m ≤ k + 1)
MayCount (Waiting want) k c p m = (k ≤ m) × (m ≤ k + 1) × (p ≡ c → m ≡ k + 1)
MayCount (Harvest j) k c p m = m ≡ k + 1

abbrev pub StageCounts : ReporterView → Stage → Type 0
StageCounts r Out = Unit {0}
StageCounts r (In p) = Unit {0}
StageCounts r (On p m e d) = MayCount r.closing r.interval (current r) p m

abbrev pub ViewCounts : ReporterView → View → Type 0
ViewCounts r (Reporter q) = Unit {0}
ViewCounts r (Writer w) = StageCounts r w.stage
ViewCounts r Gone = Unit {0}

-- The live intervals: one in Idle, two while one is being closed.
abbrev pub LiveFrom : ReporterStage → ℕ → ℕ → Type 0
LiveFrom Idle k i = i ≡ k
LiveFrom Swapped k i = (k ≤ i) × (i ≤ k + 1)
LiveFrom Cleared k i = (k ≤ i) × (i ≤ k + 1)
LiveFrom (Waiting want) k i = (k ≤ i) × (i ≤ k + 1)
LiveFrom (Harvest j) k i = (k ≤ i) × (i ≤ k + 1)

-- while cells are taken, there is one to take
abbrev pub InTable : ℕ → ReporterStage → Type 0
InTable cells Idle = Unit {0}
InTable cells Swapped = Unit {0}
InTable cells Cleared = Unit {0}
InTable cells (Waiting want) = Unit {0}
InTable cells (Harvest j) = j < cells

-- Each cell of a live interval is its initial value folded with exactly the contributions of that interval.
-- In Idle the other table is at its initial values. While cells are taken, those taken are at their initial values again, and the reporter holds what they were.
pub record HoldsCells (labels : ℕ) (words : List ℕ) (views : List View) (r : ReporterView) : Type 0 where
  pub live : (i j : ℕ) → LiveFrom r.closing r.interval i → j < table_cells labels → (i ≡ r.interval → length r.cells ≤ j) → slice_index words (cell_at labels i j) ≡ worth labels i j views
  pub vacant_table : r.closing ≡ Idle → (j : ℕ) → j < table_cells labels → slice_index words (cell_at labels (r.interval + 1) j) ≡ vacant (j % 6)
  pub count : length r.cells ≡ taken_count r.closing
  pub in_table : InTable (table_cells labels) r.closing
  pub emptied : (j : ℕ) → j < length r.cells → slice_index words (cell_at labels r.interval j) ≡ vacant (j % 6)
  pub taken : (j : ℕ) → j < length r.cells → slice_index r.cells j ≡ worth labels r.interval j views

-- Report m is that of interval m, and sums exactly the entries with that interval.
pub record ClosesShares (labels : ℕ) (views : List View) (r : ReporterView) : Type 0 where
  pub count : length r.closed ≡ r.interval
  pub each : (m : ℕ) → m < r.interval → slice_index_or r.closed m no_report ≡ record { interval = m; rows = sum_of labels (share_of m views) }

-- The intervals of a list never fall and are at most the active one; that of a stage is at least all of its list.
abbrev pub StageRises : List Pair → Stage → Type 0
StageRises l Out = Unit {0}
StageRises l (In p) = Unit {0}
StageRises l (On p m e d) = AllUpTo m l

abbrev pub AllRise : ℕ → List Joined → Type 0
AllRise a [] = Unit {0}
AllRise a (j ∷ js) = (Rising j.list × AllUpTo a j.list) × AllRise a js

abbrev pub ViewRises : ReporterView → View → Type 0
ViewRises r (Reporter q) = AllRise (active r) q.joined
ViewRises r (Writer w) = StageRises w.list w.stage × Rising w.list × AllUpTo (active r) w.list
ViewRises r Gone = Unit {0}

-- how many marks a view has
abbrev pub raised_in : View → ℕ
raised_in (Reporter r) = one_if r.raised + total (λ (j : Joined). one_if j.raised) r.joined
raised_in (Writer w) = one_if w.raised
raised_in Gone = 0

abbrev pub saw_in : View → ℕ
saw_in (Reporter r) = total (λ (j : Joined). one_if j.saw) r.joined
saw_in (Writer w) = one_if w.saw
saw_in Gone = 0

-- The stop word is 0 or 1, and 1 exactly where some view, or a joined writer's marks, raised it. Where one saw 1, it is 1.
pub record ShowsStop (words : List ℕ) (views : List View) : Type 0 where
  pub low : slice_index words 4 ≤ 1
  pub quiet : total raised_in views ≡ 0 → slice_index words 4 ≡ 0
  pub raised : 0 < total raised_in views → slice_index words 4 ≡ 1
  pub seen : 0 < total saw_in views → slice_index words 4 ≡ 1

-- each joined writer kept to its budget, its entries' labels are in range, and writer 0 knew how many were made
abbrev pub AllKept : Numbers → ℕ → List Joined → Type 0
AllKept n made [] = Unit {0}
AllKept n made (j ∷ js) = (length j.list ≤ n.budget) × AllInRange n.labels j.list × (0 < j.made → (j.number ≡ 0) × (j.made ≡ made)) × (j.number ≡ 0 → 0 < j.made) × AllKept n made js

-- what one view alone has to meet, of `made` writers: it stands at its port, keeps to the budget and to the labels, and writer 0 knows how many were made
abbrev pub Fits : Numbers → ℕ → ℕ → View → Type 0
Fits n made id (Reporter r) = (id ≡ 0) × AllKept n made r.joined × (r.ready ≡ false → made ≡ 0)
Fits n made id (Writer w) = (id ≡ w.number + 1) × (length w.list + busy w.stage ≤ n.budget) × AllInRange n.labels w.list × (0 < w.made → (w.number ≡ 0) × (w.made ≡ made)) × (w.number ≡ 0 → 0 < w.made)
Fits n made id Gone = Unit {0}

-- the numbers of entries are those of 32 bits, and of a stage's entry no more steps are done than it has
abbrev pub AllSmall : List Pair → Type 0
AllSmall [] = Unit {0}
AllSmall (x ∷ xs) = (x.1.elapsed < 4294967296) × (x.1.bytes < 4294967296) × AllSmall xs

abbrev pub AllLow : List Joined → Type 0
AllLow [] = Unit {0}
AllLow (j ∷ js) = AllSmall j.list × AllLow js

abbrev pub StageLow : ℕ → Stage → Type 0
StageLow labels Out = Unit {0}
StageLow labels (In p) = Unit {0}
StageLow labels (On p m e d) = (d ≤ sums e) × (e.label < labels) × (e.elapsed < 4294967296) × (e.bytes < 4294967296)

abbrev pub ViewLow : ℕ → View → Type 0
ViewLow labels (Reporter r) = AllLow r.joined
ViewLow labels (Writer w) = StageLow labels w.stage × AllSmall w.list
ViewLow labels Gone = Unit {0}

-- The numbers made are 0 to made - 1, each in exactly one live view or one joined list; no word comes near its end.
pub record KeepsAccounts (n : Numbers) (words : List ℕ) (views : List View) (r : ReporterView) : Type 0 where
  pub wide : length words ≡ word_count n.labels
  pub sizes : IsSized n
  pub labels : r.labels ≡ n.labels
  pub made : ℕ
  pub ports : length views ≡ made + 1
  pub few : made ≤ n.writers
  pub room : r.interval + pending r.closing ≤ 16777216
  pub started : slice_index words 1 ≤ initial (current r) + total uses views
  pub ends : (p : Bool) → (initial p ≤ slice_index words (end_at p)) × (slice_index words (end_at p) ≤ initial p + total uses views)
  pub people : total heads views ≡ made
  pub numbers : (q : ℕ) → total (holders q) views ≡ one_if (nat_lt q made)
  pub each : (id : ℕ) (v : View) → get_elem? views id ≡ some v → Fits n made id v
  pub low : (id : ℕ) (v : View) → get_elem? views id ≡ some v → ViewLow n.labels v

-- The recorder invariant. k, the reporter's interval, is the number of closed reports.
pub record RecorderInvariant (n : Numbers) (words : List ℕ) (views : List View) : Type 0 where
  pub reader : ReporterView
  pub reporter : get_elem? views 0 ≡ some (Reporter reader)
  -- k in Idle, else k + 1
  pub active_word : slice_index words 0 ≡ active reader
  -- the current parity is that of the start word
  pub start_parity : phase (slice_index words 1) ≡ current reader
  -- start less the end word of the current parity is the number of writers inside with it
  pub inside_now : total (inside (current reader)) views + slice_index words (end_at (current reader)) ≡ slice_index words 1
  -- with the other parity none is inside, but while the reporter waits for them
  pub inside_before : InsideBefore reader.closing (total (inside (other reader)) views) (slice_index words (end_at (other reader))) (initial (other reader)) (total uses views)
  -- the interval of a writer that counts
  pub stage_intervals : (id : ℕ) (v : View) → get_elem? views id ≡ some v → ViewCounts reader v
  -- what stands in the cells
  pub cells : HoldsCells n.labels words views reader
  -- each closed report is the sum of its share
  pub closed_reports : ClosesShares n.labels views reader
  -- the intervals of a writer's list
  pub intervals_rise : (id : ℕ) (v : View) → get_elem? views id ≡ some v → ViewRises reader v
  -- the stop word
  pub stop_word : ShowsStop words views
  -- who there is, and how far the words may go
  pub accounts : KeepsAccounts n words views reader

-- the invariant after a step of the actor at a port
abbrev pub Keeps : Numbers → List ℕ → List View → ℕ → Move → Type 0
Keeps n words views port m = RecorderInvariant n (stepped_words words m) (stepped_views words views port m)
