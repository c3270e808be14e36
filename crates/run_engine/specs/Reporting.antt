-- What the reporter's loop needs, and what it has done.
use Rattle.std.specs.Prelude.{◌≡◌, ◌≤◌, ℕ, List, [], Option, Result, length, false, OnOk, OnErr, IfErr}
use Rattle.element_tree.specs.Tree.{Tree}
use Rattle.element_tree.specs.Names.{labels_of}
use Rattle.interval_tables.specs.Rows.{sum_of}
use Rattle.outside_world.specs.Tickers.{Ticks}
use Rattle.output_lines.specs.Reports.{report_text}
use Rattle.recorder_core.specs.declared.places.Recorder.{Recorder}
use Rattle.recorder_core.specs.declared.places.ReporterSeat.{ReporterSeat}
use Rattle.recorder_core.specs.RecorderSeats.{reports, numbers_of, IsReporter}
use Rattle.reporter_loop.specs.declared.counts.Counts.{Counts}
use Rattle.reporter_loop.specs.declared.error.RunError.{RunError}
use Rattle.reporter_loop.specs.Counted.{CountsAll}
use Rattle.reporter_loop.specs.Failing.{IsCause}
use Rattle.reporter_loop.specs.Reported.{Reported}
use Rattle.reporter_loop.specs.ReportsWritten.{WritesPrefix}
use Rattle.reporter_loop.specs.Ticked.{HasTickedWhere}

-- a seat that has closed no interval, room for a report of the plan's labels, and a total without samples
pub record MayReport (r : Recorder) (plan : Tree) (s : ReporterSeat) (counts : Counts) : Type 0 where
  pub seat : IsReporter r s
  pub closed : (reports s).closed ≡ []
  pub interval : (reports s).interval ≡ 0
  pub raised : (reports s).raised ≡ false
  pub rows : length counts.last.rows ≡ (numbers_of r).labels
  pub none : counts.total.rows ≡ sum_of (numbers_of r).labels []
  pub labels : (numbers_of r).labels ≡ length (labels_of plan.elements)

-- what the ticker and the sink tell
pub record Edges : Type 0 where
  pub ticks : Option Ticks
  pub written : Option (List ℕ)
  pub faults : ℕ

-- what a seat, the room for a report and the total have become, and how the loop ended
pub record LoopEnd : Type 0 where
  pub seat : ReporterSeat
  pub counts : Counts
  pub answer : Result (Unit {0}) RunError

-- The closed reports were written, each in its interval, and the ticker gave as many true answers. Where one was not written whole, a
-- prefix of them was. The total is that of the closed reports.
pub record HasReported (r : Recorder) (plan : Tree) (limit : ℕ) (before after : Edges) (first : ReporterSeat) (end : LoopEnd) : Type 0 where
  pub seat : IsReporter r end.seat
  pub rows : length end.counts.last.rows ≡ (numbers_of r).labels
  pub counted : CountsAll (numbers_of r).labels (reports end.seat) end.counts.total
  pub few : (reports end.seat).interval ≤ 16777216
  pub joined : (reports end.seat).joined ≡ (reports first).joined
  pub ticked : HasTickedWhere (reports end.seat).interval before.ticks after.ticks
  pub reported : OnOk end.answer (Reported (report_text plan) limit (reports end.seat) before.written after.written)
  pub prefix : OnErr end.answer (WritesPrefix (report_text plan) before.written after.written)
  pub ok : OnOk end.answer (after.faults ≡ before.faults)
  pub cause : IfErr end.answer (IsCause before.faults after.faults)
