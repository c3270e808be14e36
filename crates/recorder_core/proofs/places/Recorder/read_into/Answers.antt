use Rattle.std.proofs.Common.{◌≡◌, ℕ, sym, refl, ap, ◌∙◌, subst, arith}
use Rattle.interval_tables.specs.declared.row.Row.{Row}
use Rattle.interval_tables.specs.declared.report.Report.{Report}
use Rattle.phaser_core.specs.declared.view.ReporterView.{ReporterView}
use Rattle.phaser_core.specs.Cells.{table_cells}
use Rattle.phaser_core.specs.Views.{AllJoined}
use Rattle.phaser_core.specs.Shares.{SumsOfStripes}
use Rattle.phaser_words.specs.WordSeats.{reading, numbers}
use Rattle.recorder_core.specs.Folds.{open_cell}
use Rattle.recorder_core.proofs.Ending.{ends_with, folded_rows}
use Rattle.recorder_core.proofs.places.Recorder.read_into.Goals as goal

pub read_report-requires-clause-idle : goal.read_report-requires-clause-idle
read_report-requires-clause-idle c = ap (λ (q : ReporterView). q.closing) c.recall.ensures.same ∙ c.requires.idle

pub read_report-requires-clause-joined : goal.read_report-requires-clause-joined
read_report-requires-clause-joined c = subst AllJoined (sym c.recall.ensures.same) c.requires.joined

pub read_report-requires-clause-sums : goal.read_report-requires-clause-sums
read_report-requires-clause-sums c =
    let n : ℕ = (numbers c.args.self.now.words).labels in let r : ReporterView = reading c.args.words.now in
    subst (λ (q : ReporterView). SumsOfStripes n (table_cells n) (open_cell n q)) (sym c.recall.ensures.same) (c.recall.ensures.knows.stripes r.interval)

pub returns-clause-ends : goal.returns-clause-ends
returns-clause-ends c =
    let n : ℕ = (numbers c.args.self.now.words).labels in let r : ReporterView = reading c.args.words.now in
    let interval = c.interval-into.ensures ∙ ap (λ (q : ReporterView). q.interval) (c.read_report.ensures.same ∙ c.recall.ensures.same) in
    let rows = c.read_report.ensures.folded ∙ folded_rows (numbers c.args.self.now.words) r (reading c.recall.new.seat) c.recall.ensures.same c.recall.ensures.knows in
    ends_with (numbers c.args.self.now.words) r r _ c.read_report.new.into.rows c.requires.seat.1 c.requires.idle c.requires.joined refl c.recall.ensures.knows rows (λ i. record { interval = interval i; rows = c.read_report.new.into.rows })
