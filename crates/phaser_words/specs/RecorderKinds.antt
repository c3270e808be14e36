-- The rule of the words, and what each kind of step tells its seat.
use Rattle.std.specs.Prelude.{◌≡◌, ℕ, ◌+◌, ◌<◌, ◌≤◌, not, Bool, true, false, List, [], ◌∷◌, ◌++◌, map, length, slice_index}
use Rattle.atomic_table.specs.Table.{State, Me, Step}
use Rattle.jm_base.specs.declared.types.Entry.{Entry}
use Rattle.jm_base.specs.SumTotals.{one_if}
use Rattle.interval_tables.specs.Rows.{sum_of, IsInBounds}
use Rattle.phaser_core.specs.declared.view.Numbers.{Numbers}
use Rattle.phaser_core.specs.declared.view.Stage.{Stage}
use Rattle.phaser_core.specs.declared.view.Stage.TheVariants.{Out, In, On}
use Rattle.phaser_core.specs.declared.view.ReporterStage.{ReporterStage}
use Rattle.phaser_core.specs.declared.view.ReporterStage.TheVariants.{Idle, Swapped, Cleared, Waiting, Harvest}
use Rattle.phaser_core.specs.declared.view.Joined.{Joined}
use Rattle.phaser_core.specs.declared.view.WriterView.{WriterView}
use Rattle.phaser_core.specs.declared.view.ReporterView.{ReporterView}
use Rattle.phaser_core.specs.declared.view.View.{View}
use Rattle.phaser_core.specs.declared.view.View.TheVariants.{Reporter, Writer, Gone}
use Rattle.phaser_core.specs.Cells.{is_odd, initial, sums, table_cells, report_from}
use Rattle.phaser_core.specs.Views.{Pair, first_reading, made_known, AllJoined, joined_at}
use Rattle.phaser_core.specs.Shares.{AllUpTo, entries_in, Partition, SumsOfLists, SumsOfStripes}
use Rattle.phaser_core.specs.CoreMoves.{Move, entering, loading, adding, leaving, swapping, clearing, flipping, looking, taking, looking_stop, raising_stop, raising_as_reporter}
use Rattle.phaser_core.specs.Invariant.{RecorderInvariant, raised_in, saw_in}
use Rattle.phaser_words.specs.Spacing.{slot_count, words_in}

-- the recorder invariant, of words that stand one after another
abbrev pub core_holds : Numbers → State (Unit {0}) View → Type 0
core_holds n s = RecorderInvariant n s.words s.views

-- the recorder invariant, of the words that stand in the slots
abbrev pub holds_of : Numbers → State (Unit {0}) View → Type 0
holds_of n s = (length s.words ≡ slot_count n.labels) × RecorderInvariant n (words_in n.labels s.words) s.views

abbrev pub first_view : Numbers → View
first_view n = Reporter (first_reading n.labels)

abbrev Sat : Type 0
Sat = Me (Unit {0}) View

-- what a writer's view says, and what the reporter's does; of another view they say nothing
abbrev pub writing_of : View → WriterView
writing_of (Writer w) = w
writing_of (Reporter r) = record { number = 0; list = []; stage = Out; made = 0; raised = false; saw = false }
writing_of Gone = record { number = 0; list = []; stage = Out; made = 0; raised = false; saw = false }

abbrev pub reading_of : View → ReporterView
reading_of (Reporter r) = r
reading_of (Writer w) = first_reading 0
reading_of Gone = first_reading 0

-- the parts of a stage
abbrev pub parity_in : Stage → Bool
parity_in Out = false
parity_in (In p) = p
parity_in (On p m e d) = p

abbrev pub interval_in : Stage → ℕ
interval_in Out = 0
interval_in (In p) = 0
interval_in (On p m e d) = m

abbrev pub no_entry : Entry
no_entry = record { label = 0; ok = true; elapsed = 0; bytes = 0 }

abbrev pub entry_in : Stage → Entry
entry_in Out = no_entry
entry_in (In p) = no_entry
entry_in (On p m e d) = e

abbrev pub done_in : Stage → ℕ
done_in Out = 0
done_in (In p) = 0
done_in (On p m e d) = d

abbrev pub waited_for : ReporterStage → ℕ
waited_for Idle = 0
waited_for Swapped = 0
waited_for Cleared = 0
waited_for (Waiting want) = want
waited_for (Harvest j) = 0

abbrev pub taken_in : ReporterStage → ℕ
taken_in Idle = 0
taken_in Swapped = 0
taken_in Cleared = 0
taken_in (Waiting want) = 0
taken_in (Harvest j) = j

abbrev pub no_numbers : Numbers
no_numbers = record { labels = 0; writers = 0; budget = 0 }

-- Where a stage stands: inside and about to load; with a sum left; with the least next; with the greatest next; with all done.
-- Where an entry stands in a table of cells, its label is in range.

abbrev pub IsIn : Stage → Type 0
IsIn Out = ⊥
IsIn (In p) = Unit {0}
IsIn (On p m e d) = ⊥

abbrev pub HasSum : ℕ → Stage → Type 0
HasSum labels Out = ⊥
HasSum labels (In p) = ⊥
HasSum labels (On p m e d) = (d < 3 + one_if (not e.ok)) × (e.label < labels)

abbrev pub HasLeast : ℕ → Stage → Type 0
HasLeast labels Out = ⊥
HasLeast labels (In p) = ⊥
HasLeast labels (On p m e d) = (d ≡ 3 + one_if (not e.ok)) × (e.label < labels)

abbrev pub HasGreatest : ℕ → Stage → Type 0
HasGreatest labels Out = ⊥
HasGreatest labels (In p) = ⊥
HasGreatest labels (On p m e d) = (d ≡ 4 + one_if (not e.ok)) × (e.label < labels)

abbrev pub HasAll : Stage → Type 0
HasAll Out = ⊥
HasAll (In p) = ⊥
HasAll (On p m e d) = d ≡ sums e

abbrev pub one_further : Stage → Stage
one_further Out = Out
one_further (In p) = In p
one_further (On p m e d) = On p m e (d + 1)

-- Where the reporter stands: it waits; a cell is left to take

abbrev pub IsWaiting : ReporterStage → Type 0
IsWaiting Idle = ⊥
IsWaiting Swapped = ⊥
IsWaiting Cleared = ⊥
IsWaiting (Waiting want) = Unit {0}
IsWaiting (Harvest j) = ⊥

abbrev pub HasCell : ℕ → ReporterStage → Type 0
HasCell labels Idle = ⊥
HasCell labels Swapped = ⊥
HasCell labels Cleared = ⊥
HasCell labels (Waiting want) = ⊥
HasCell labels (Harvest j) = j < table_cells labels

-- The kinds of step. Each is a move of its seat: its view is then as the move says of the number found.

abbrev pub moved : Move → Sat → ℕ → Sat → Type 0
moved move m found m' = m' ≡ (move.after found, m.1)

abbrev pub enters : Step (Unit {0}) → Sat → ℕ → Sat → Type 0
enters st m found m' = moved (entering (writing_of m.0)) m found m'

-- the loaded interval is at least all of the writer's list
abbrev pub loads : Entry → Step (Unit {0}) → Sat → ℕ → Sat → Type 0
loads e st m found m' = moved (loading (writing_of m.0) (parity_in (writing_of m.0).stage) e) m found m' × AllUpTo found (writing_of m.0).list

abbrev pub adds_of : WriterView → Stage → Move
adds_of w s = adding 0 w (parity_in s) (interval_in s) (entry_in s) (done_in s)

abbrev pub adds : Step (Unit {0}) → Sat → ℕ → Sat → Type 0
adds st m found m' = moved (adds_of (writing_of m.0) (writing_of m.0).stage) m found m'

abbrev pub exits_of : WriterView → Stage → Move
exits_of w s = leaving w (parity_in s) (interval_in s) (entry_in s)

abbrev pub exits : Step (Unit {0}) → Sat → ℕ → Sat → Type 0
exits st m found m' = moved (exits_of (writing_of m.0) (writing_of m.0).stage) m found m'

-- the stop word is 0 or 1, and 1 for a writer that raised it or saw it as 1 before
abbrev pub watches : Step (Unit {0}) → Sat → ℕ → Sat → Type 0
watches st m found m' =
    moved (looking_stop (writing_of m.0)) m found m'
    × (found ≤ 1) × ((writing_of m.0).raised ≡ true → found ≡ 1) × ((writing_of m.0).saw ≡ true → found ≡ 1)

abbrev pub raises : Step (Unit {0}) → Sat → ℕ → Sat → Type 0
raises st m found m' =
    moved (raising_stop (writing_of m.0)) m found m'
    × (found ≤ 1) × ((writing_of m.0).raised ≡ true → found ≡ 1) × ((writing_of m.0).saw ≡ true → found ≡ 1)

-- the same for the reporter, with the marks of the writers that it took in
abbrev pub reporter_raises : Step (Unit {0}) → Sat → ℕ → Sat → Type 0
reporter_raises st m found m' =
    moved (raising_as_reporter (reading_of m.0)) m found m'
    × (found ≤ 1) × (0 < raised_in (Reporter (reading_of m.0)) → found ≡ 1) × (0 < saw_in (Reporter (reading_of m.0)) → found ≡ 1)

-- the active word is the interval that closes
abbrev pub swaps : Step (Unit {0}) → Sat → ℕ → Sat → Type 0
swaps st m found m' = moved (swapping (reading_of m.0)) m found m' × (found ≡ (reading_of m.0).interval)

-- the end word of the next phase lies between what the phase begins with and that with all entries
abbrev pub clears : Step (Unit {0}) → Sat → ℕ → Sat → Type 0
clears st m found m' =
    let start : ℕ = initial (is_odd ((reading_of m.0).interval + 1)) in
    moved (clearing (reading_of m.0)) m found m' × (start ≤ found) × (found ≤ start + 4194304)

abbrev pub flips : Step (Unit {0}) → Sat → ℕ → Sat → Type 0
flips st m found m' = moved (flipping (reading_of m.0)) m found m'

-- the end word is at most what is waited for, and is that where every writer was joined
abbrev pub looks : Step (Unit {0}) → Sat → ℕ → Sat → Type 0
looks st m found m' =
    let r : ReporterView = reading_of m.0 in let want : ℕ = waited_for r.closing in
    moved (looking r want) m found m' × (found ≤ want) × (AllJoined r → found ≡ want)

-- the cells taken sum some entries, stripe by stripe
abbrev pub takes : Step (Unit {0}) → Sat → ℕ → Sat → Type 0
takes st m found m' =
    let r : ReporterView = reading_of m.0 in let cells : List ℕ = r.cells ++ found ∷ [] in
    moved (taking r (taken_in r.closing)) m found m' × SumsOfStripes r.labels (length cells) (λ j. slice_index cells j)

-- Loads that change nothing, by which the reporter learns what the rule says of its own view

-- the lists of joined writers
abbrev pub lists_of : List Joined → List (List Pair)
lists_of js = map (λ (j : Joined). j.list) js

-- The reports closed so far, and one whose cells are what the joined lists contribute to the open interval, together
-- sum each entry of the joined lists in exactly one report.
abbrev pub CanEnd : ReporterView → Type 0
CanEnd r =
    (f : ℕ → ℕ) → ((j : ℕ) → j < table_cells r.labels → f j ≡ joined_at r.labels r.interval j r.joined)
    → Partition r.labels (lists_of r.joined) (r.closed ++ report_from r.labels r.interval f ∷ [])

-- how many writers are joined, and how many the reporter knows were made
pub record CountsWriters (n : Numbers) (r : ReporterView) : Type 0 where
  pub joined : length r.joined ≤ n.writers
  pub made : made_known r.joined ≤ n.writers
  pub order : 0 < made_known r.joined → length r.joined ≤ made_known r.joined

-- where a joined writer saw stop raised, the reporter or a joined writer raised it
abbrev pub StopWasRaised : ReporterView → Type 0
StopWasRaised r = 0 < saw_in (Reporter r) → 0 < raised_in (Reporter r)

-- what the rule says of the reporter's own view; what joined writers recorded in an interval sums to rows in bounds, and their cells sum some entries, stripe by stripe
pub record Recalled (n : Numbers) (r : ReporterView) : Type 0 where
  pub sums : SumsOfLists n r
  pub counts : CountsWriters n r
  pub bounds : (m : ℕ) → IsInBounds (sum_of n.labels (entries_in m (lists_of r.joined)))
  pub stripes : (m : ℕ) → SumsOfStripes n.labels (table_cells n.labels) (λ j. joined_at n.labels m j r.joined)
  pub ends : r.closing ≡ Idle → AllJoined r → CanEnd r
  pub stop : AllJoined r → StopWasRaised r

abbrev pub recalls : Numbers → Step (Unit {0}) → Sat → ℕ → Sat → Type 0
recalls n st m found m' = (m' ≡ m) × Recalled n (reading_of m.0)

-- the cell j of the open interval holds what the joined lists contribute to it
abbrev pub reads : ℕ → Step (Unit {0}) → Sat → ℕ → Sat → Type 0
reads j st m found m' = let r : ReporterView = reading_of m.0 in (m' ≡ m) × (found ≡ joined_at r.labels r.interval j r.joined)
