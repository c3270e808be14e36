-- The steps. Each is one change of one word and of its actor's view; the view after it depends on the view before and on the number found.
use Rattle.std.specs.Prelude.{ℕ, ◌+◌, ◌%◌, ◌^◌, ◌==◌, Bool, true, false, List, [], ◌∷◌, ◌++◌, slice_index, slice_set, zero, suc}
use Rattle.jm_base.specs.declared.types.Entry.{Entry}
use Rattle.phaser_core.specs.declared.view.Stage.TheVariants.{Out, In, On}
use Rattle.phaser_core.specs.declared.view.WriterView.{WriterView}
use Rattle.phaser_core.specs.declared.view.ReporterStage.TheVariants.{Idle, Swapped, Cleared, Waiting, Harvest}
use Rattle.phaser_core.specs.declared.view.ReporterView.{ReporterView}
use Rattle.phaser_core.specs.declared.view.View.{View}
use Rattle.phaser_core.specs.declared.view.View.TheVariants.{Reporter, Writer, Gone}
use Rattle.phaser_core.specs.Cells.{is_odd, end_at, initial, phase, rows_in, table_cells, place, cell_at, vacant, folded, part, column, report_of}
use Rattle.phaser_core.specs.Views.{at_stage, at_closing, writer_zero, further, left_of}

pub record Move : Type 0 where
  pub word : ℕ
  -- what the atomic step makes of the number found
  pub change : ℕ → ℕ
  -- the actor's view then
  pub after : ℕ → View

abbrev pub add_one : ℕ → ℕ
add_one n = (n + 1) % 2 ^ 64

-- Steps of a writer

abbrev pub entering : WriterView → Move
entering w = record { word = 1; change = add_one; after = λ n. Writer (at_stage w (In (phase n)) w.list) }

abbrev pub loading : WriterView → Bool → Entry → Move
loading w p e = record { word = 0; change = λ n. n; after = λ n. Writer (at_stage w (On p n e 0) w.list) }

-- Add, Lower and Raise, by the column of the step
abbrev pub adding : ℕ → WriterView → Bool → ℕ → Entry → ℕ → Move
adding labels w p m e d = record { word = place labels (m % 2) w.number e.label (column e d); change = λ x. folded (column e d) x (part (column e d) e); after = λ _. Writer (at_stage w (On p m e (d + 1)) w.list) }

abbrev pub leaving : WriterView → Bool → ℕ → Entry → Move
leaving w p m e = record { word = end_at p; change = add_one; after = λ _. Writer (at_stage w Out (w.list ++ (m, e) ∷ [])) }

abbrev pub or : Bool → Bool → Bool
or true b = true
or false b = b

abbrev pub marked : WriterView → Bool → Bool → WriterView
marked w raised saw = record { number = w.number; list = w.list; stage = w.stage; made = w.made; raised = raised; saw = saw }

abbrev pub looking_stop : WriterView → Move
looking_stop w = record { word = 4; change = λ n. n; after = λ n. Writer (marked w w.raised (or w.saw (n == 1))) }

abbrev pub raising_stop : WriterView → Move
raising_stop w = record { word = 4; change = λ _. 1; after = λ _. Writer (marked w true w.saw) }

-- Steps of the reporter

abbrev pub swapping : ReporterView → Move
swapping r = record { word = 0; change = λ _. r.interval + 1; after = λ _. Reporter (at_closing r Swapped) }

abbrev pub clearing : ReporterView → Move
clearing r = record { word = end_at (is_odd (r.interval + 1)); change = λ _. initial (is_odd (r.interval + 1)); after = λ _. Reporter (at_closing r Cleared) }

abbrev pub flipping : ReporterView → Move
flipping r = record { word = 1; change = λ _. initial (is_odd (r.interval + 1)); after = λ n. Reporter (at_closing r (Waiting n)) }

-- the interval is closed with these cells
abbrev pub closed_with : ReporterView → List ℕ → ReporterView
closed_with r l = record r { interval = r.interval + 1; closing = Idle; cells = []; closed = r.closed ++ report_of r.labels r.interval l ∷ []; seen = 0 }

-- these cells are taken, and there are more
abbrev pub holding : ReporterView → List ℕ → ℕ → ReporterView
holding r l j = record r { closing = Harvest j; cells = l }

-- with j cells taken: more are to be taken, or the report is closed
abbrev pub gathered_if : Bool → ReporterView → List ℕ → ℕ → ReporterView
gathered_if true r l j = closed_with r l
gathered_if false r l j = holding r l j

abbrev pub gathered : ReporterView → List ℕ → ℕ → ReporterView
gathered r l j = gathered_if (j == table_cells r.labels) r l j

-- after a look; true where the end word shows what is waited for
abbrev pub settled : ReporterView → Bool → ReporterView
settled r true = gathered r [] 0
settled r false = r

-- the reporter after a look that found this number
abbrev pub with_seen : ReporterView → ℕ → ReporterView
with_seen r found = record r { seen = found }

abbrev pub looking : ReporterView → ℕ → Move
looking r want = record { word = end_at (is_odd r.interval); change = λ x. x; after = λ x. Reporter (settled (with_seen r x) (x == want)) }

abbrev pub taking : ReporterView → ℕ → Move
taking r j = record { word = cell_at r.labels r.interval j; change = λ _. vacant (j % 6); after = λ x. Reporter (gathered r (r.cells ++ x ∷ []) (j + 1)) }

abbrev pub reporter_raised : ReporterView → ReporterView
reporter_raised r = record r { raised = true }

abbrev pub raising_as_reporter : ReporterView → Move
raising_as_reporter r = record { word = 4; change = λ _. 1; after = λ _. Reporter (reporter_raised r) }

abbrev pub stepped_words : List ℕ → Move → List ℕ
stepped_words words m = slice_set words m.word (m.change (slice_index words m.word))

abbrev pub stepped_views : List ℕ → List View → ℕ → Move → List View
stepped_views words views port m = slice_set views port (m.after (slice_index words m.word))

-- A further writer: the reporter makes writer 0, and writer 0 each later one

abbrev pub splitting : View → View
splitting (Reporter r) = Reporter (record r { ready = true })
splitting (Writer w) = Writer record { number = w.number; list = w.list; stage = w.stage; made = w.made + 1; raised = w.raised; saw = w.saw }
splitting Gone = Gone

abbrev pub split_off : View → View
split_off (Reporter r) = writer_zero
split_off (Writer w) = further w.made
split_off Gone = Gone

-- A writer that is joined: its view is gone, and the reporter's has what it left

abbrev pub no_one : View
no_one = Gone

abbrev pub taking_in : ReporterView → WriterView → ReporterView
taking_in r w = record r { joined = r.joined ++ left_of w ∷ [] }

abbrev pub joining : View → View → View
joining (Reporter r) (Writer w) = Reporter (taking_in r w)
joining v w = v

-- The words at the start

abbrev pub first_cells : ℕ → List ℕ
first_cells zero = []
first_cells (suc rows) = 0 ∷ 0 ∷ 0 ∷ 0 ∷ 18446744073709551615 ∷ 0 ∷ first_cells rows

abbrev pub first_words : ℕ → List ℕ
first_words labels = 0 ∷ 0 ∷ 0 ∷ 9223372036854775808 ∷ 0 ∷ (first_cells (rows_in labels) ++ first_cells (rows_in labels))
