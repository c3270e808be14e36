use Rattle.std.proofs.Common.{◌≡◌, ◌+◌, ◌*◌, ℕ, get_or, ap, ◌∙◌, arith, length-set}
use Rattle.phaser_core.specs.declared.view.ReporterView.{ReporterView}
use Rattle.phaser_core.specs.Cells.{cell_of}
use Rattle.phaser_core.specs.Views.{joined_at}
use Rattle.phaser_words.specs.WordSeats.{reading, numbers}
use Rattle.recorder_core.specs.Folds.{open_cell}
use Rattle.recorder_core.proofs.Cellwise.{reads_more}
use Rattle.recorder_core.proofs.rows.read_cells.Goals as goal

pub loop-column-preserved : goal.loop-column-preserved
loop-column-preserved c =
    let r : ReporterView = reading c.args.seat.now in let n = c.loop-column.column in let same = c.loop-column.invariant.same in
    let labels : ℕ = (numbers c.args.words.now).labels in let first = c.first_cell-first.ensures.cell in let named = c.labels.ensures in
    let turn : c.labels.result ≡ labels = named in
    let product : c.args.stripe * c.labels.result ≡ c.args.stripe * labels = ap (λ (l : ℕ). c.args.stripe * l) turn in
    let at : c.first_cell-first.result + n ≡ cell_of labels c.args.stripe c.args.label n = omega arith in
    let found : c.read.result ≡ open_cell labels r (cell_of labels c.args.stripe c.args.label n) =
    c.read.ensures.worth ∙ (λ i. joined_at (same i).labels (same i).interval (at i) (same i).joined) ∙ ap (λ (l : ℕ). joined_at l r.interval (cell_of labels c.args.stripe c.args.label n) r.joined) c.requires.seat.1 in
    record {
      seated = c.read.ensures.seat;
      long = length-set c.loop-column.cells n c.read.result ∙ c.loop-column.invariant.long;
      same = c.read.ensures.same ∙ same;
      read = reads_more c.loop-column.cells (λ k. open_cell labels r (cell_of labels c.args.stripe c.args.label k)) n c.read.result (let long = c.loop-column.invariant.long in omega arith) c.loop-column.invariant.read found;
    }

pub returns-clause-cells : goal.returns-clause-cells
returns-clause-cells c = λ k low. c.loop-column.invariant.read k (omega arith)
