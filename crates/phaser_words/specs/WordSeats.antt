-- What a contract says of the words and their seats.
use Rattle.std.specs.Prelude.{◌≡◌, ◌≢◌, ℕ, ◌<◌, List, true}
use Rattle.std.specs.Slots.{slots_items}
use mathlib.Core.Option.{some}
use lib.ListN.{get_elem?}
use Rattle.phaser_core.specs.declared.view.Numbers.{Numbers}
use Rattle.phaser_core.specs.declared.view.WriterView.{WriterView}
use Rattle.phaser_core.specs.declared.view.ReporterView.{ReporterView}
use Rattle.phaser_core.specs.declared.view.ReporterStage.TheVariants.{Waiting}
use Rattle.phaser_core.specs.declared.view.View.{View}
use Rattle.phaser_core.specs.declared.view.View.TheVariants.{Reporter, Gone}
use Rattle.phaser_core.specs.Views.{AllJoined}
use Rattle.phaser_core.specs.CoreMoves.{settled, with_seen}
use Rattle.phaser_core.specs.Invariant.{RecorderInvariant}
use Rattle.phaser_words.specs.declared.places.Words.{Words}
use Rattle.phaser_words.specs.declared.places.WriterWordSeat.{WriterWordSeat}
use Rattle.phaser_words.specs.declared.places.ReporterWordSeat.{ReporterWordSeat}
use Rattle.phaser_words.specs.declared.places.LastWords.{LastWords}
use Rattle.phaser_core.specs.declared.applied.Applied.{Applied}
use Rattle.phaser_core.specs.declared.applied.Applied.TheVariants.{Old, Settled, NotYet, NotEnabled}
use Rattle.phaser_words.specs.Spacing.{words_in}
use Rattle.phaser_words.specs.RecorderKinds.{writing_of, reading_of, waited_for}

-- what the writer, and the reporter, of a seat knows
abbrev pub writing : WriterWordSeat → WriterView
writing s = writing_of s.seat.me.0

abbrev pub reading : ReporterWordSeat → ReporterView
reading s = reading_of s.seat.me.0

-- what the words were made with
abbrev pub numbers : Words → Numbers
numbers w = w.table.shared.key

-- the seat was made by these words
abbrev pub IsWriterOf : Words → WriterWordSeat → Type 0
IsWriterOf w s = s.seat.table_id ≡ w.table.shared.table_id

abbrev pub IsReporterOf : Words → ReporterWordSeat → Type 0
IsReporterOf w s = (s.seat.table_id ≡ w.table.shared.table_id) × ((reading s).labels ≡ (numbers w).labels)

abbrev pub last_words : LastWords → List ℕ
last_words l = words_in l.labels (slots_items l.closed.words)

-- the words are those of a state of the recorder in which the reporter has this view, and every writer was joined
abbrev pub Ends : Numbers → List ℕ → ReporterView → Type 0
Ends n words r =
    (views : List View) × RecorderInvariant n words views × (get_elem? views 0 ≡ some (Reporter r))
    × ((port : ℕ) (v : View) → port ≢ 0 → get_elem? views port ≡ some v → v ≡ Gone)

-- A look that settled found what is waited for, and goes on to take cells, or has closed a report that has none.
-- One that did not found `seen`, which is less; nothing else changed, and some writer is not joined.
abbrev pub IsLook : ReporterView → Applied → ReporterView → Type 0
IsLook r (Old found) s = ⊥
IsLook r NotEnabled s = ⊥
IsLook r Settled s = s ≡ settled (with_seen r (waited_for r.closing)) true
IsLook r (NotYet seen want) s = (s ≡ with_seen r seen) × (r.closing ≡ Waiting want) × (seen < want) × ¬ (AllJoined r)
