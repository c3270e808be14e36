-- What a contract says of the recorder and its seats.
use Rattle.std.specs.Prelude.{◌≡◌, ◌+◌, ◌<◌, Bool, true, false, List, [], ◌∷◌, ◌++◌, length}
use Rattle.interval_tables.specs.declared.report.Report.{Report}
use Rattle.interval_tables.specs.Rows.{sum_of, IsInBounds}
use Rattle.phaser_core.specs.declared.view.Numbers.{Numbers}
use Rattle.phaser_core.specs.declared.view.WriterView.{WriterView}
use Rattle.phaser_core.specs.declared.view.ReporterView.{ReporterView}
use Rattle.phaser_core.specs.declared.view.ReporterStage.TheVariants.{Waiting}
use Rattle.phaser_core.specs.Views.{AllJoined}
use Rattle.phaser_core.specs.Shares.{entries_in, Partition}
use Rattle.phaser_core.specs.CoreMoves.{with_seen}
use Rattle.phaser_words.specs.RecorderKinds.{lists_of}
use Rattle.phaser_words.specs.WordSeats.{writing, reading, numbers, IsWriterOf, IsReporterOf}
use Rattle.recorder_core.specs.declared.places.Recorder.{Recorder}
use Rattle.recorder_core.specs.declared.places.WriterSeat.{WriterSeat}
use Rattle.recorder_core.specs.declared.places.ReporterSeat.{ReporterSeat}
use Rattle.recorder_core.specs.declared.places.Closing.{Closing}
use Rattle.recorder_core.specs.declared.places.Books.{Books}
use Rattle.recorder_core.specs.declared.recorder.Poll.{Poll}
use Rattle.recorder_core.specs.declared.recorder.Poll.TheVariants.{Settled, NotYet}
use Rattle.recorder_core.specs.Stands.{before}

-- what a writer knows, what the reporter knows, and what it knew when it began to close the interval
abbrev pub writes : WriterSeat → WriterView
writes s = writing s.words

abbrev pub reports : ReporterSeat → ReporterView
reports s = reading s.words

abbrev pub closes : Closing → ReporterView
closes c = before c.settled (reading c.words)

abbrev pub is_settled : Closing → Bool
is_settled c = c.settled

-- what the recorder was made with
abbrev pub numbers_of : Recorder → Numbers
numbers_of r = numbers r.words

-- the seat was made by this recorder
abbrev pub IsWriter : Recorder → WriterSeat → Type 0
IsWriter r s = IsWriterOf r.words s.words

abbrev pub IsReporter : Recorder → ReporterSeat → Type 0
IsReporter r s = IsReporterOf r.words s.words

abbrev pub IsClosing : Recorder → Closing → Type 0
IsClosing r c = IsReporterOf r.words c.words

-- A poll that settled says so from then on. One that did not found `seen`, which is less than it waits for; nothing else changed, and some writer is not joined.
abbrev pub IsPoll : ReporterView → Poll → ReporterView → Bool → Type 0
IsPoll r Settled s settled = settled ≡ true
IsPoll r (NotYet seen want) s settled = (settled ≡ false) × (s ≡ with_seen r seen) × (r.closing ≡ Waiting want) × (seen < want) × ¬ (AllJoined r)

-- what the reporter knew at the end: every writer's list and marks, its own mark, and every report but the last
abbrev pub books_of : Books → ReporterView
books_of b = reading b.seat

-- the report of the interval that is open: it sums what joined writers recorded in it
abbrev pub last_report : ReporterView → Report
last_report r = record { interval = r.interval; rows = sum_of r.labels (entries_in r.interval (lists_of r.joined)) }

-- every report, with that of the interval that was open at the end as the last
abbrev pub all_reports_of : Books → List Report
all_reports_of b = (books_of b).closed ++ last_report (books_of b) ∷ []

-- The report is that of the open interval, and with it the closed ones count each entry of the joined lists in exactly one report.
pub record EndsWith (n : Numbers) (r : ReporterView) (last : Report) : Type 0 where
  pub is : last ≡ last_report r
  pub parted : Partition n.labels (lists_of r.joined) (r.closed ++ last ∷ [])
  pub count : length (r.closed ++ last ∷ []) ≡ r.interval + 1
  pub rows : length last.rows ≡ n.labels
  pub bounds : IsInBounds last.rows
