use Rattle.std.proofs.Common.{◌≡◌, ◌+◌, ◌*◌, ◌<◌, ℕ, List, length, get_or, sym, refl, ap, ◌∙◌, subst, arith, length-set}
use Rattle.interval_tables.specs.declared.row.Row.{Row}
use Rattle.interval_tables.specs.Rows.{merged_rows, rows_folded}
use Rattle.phaser_core.specs.declared.view.ReporterView.{ReporterView}
use Rattle.phaser_core.specs.Cells.{table_cells, cell_of, merged_to, stripe_rows}
use Rattle.phaser_core.proofs.CellSteps.{cell_low}
use Rattle.phaser_words.specs.WordSeats.{reading, numbers}
use Rattle.recorder_core.specs.Folds.{open_cell}
use Rattle.recorder_core.proofs.Cellwise.{stripe_none, stripe_whole, cells_folded, fold_low, length-merged_to}
use Rattle.recorder_core.proofs.rows.read_stripe.Goals as goal

pub loop-label-init : goal.loop-label-init
loop-label-init c = record {
  seated = c.requires.seat;
  same = refl;
  long = refl;
  folded = stripe_none (numbers c.args.words.now).labels c.args.stripe (open_cell (numbers c.args.words.now).labels (reading c.args.seat.now)) c.args.into.now.rows c.requires.folded;
}

pub fold-requires-clause-room : goal.fold-requires-clause-room
fold-requires-clause-room c =
    let n : ℕ = (numbers c.args.words.now).labels in let r : ReporterView = reading c.args.seat.now in let l : ℕ = c.loop-label.label in let end = c.labels-label-end.ensures in
    let long = c.loop-label.invariant.long in let labels = c.requires.rows in let same = c.loop-label.invariant.same in
    let wide = length-merged_to n (open_cell n r) c.args.stripe l c.loop-label.into.rows c.loop-label.invariant.folded in
    let b = cell_low n c.args.stripe l 5 c.requires.stripe (omega arith) (omega arith) in
    let next = cells_folded n c.args.stripe l (open_cell n r) c.read_cells-cells.result c.loop-label.into.rows (omega arith)
    (λ k low. c.read_cells-cells.ensures.cells k low ∙ ap (λ (q : ReporterView). open_cell n q (cell_of n c.args.stripe l k)) same) c.loop-label.invariant.folded in
    fold_low n (table_cells n) c.args.stripe l (open_cell n r) (rows_folded c.loop-label.into.rows l (λ (k : ℕ). get_or c.read_cells-cells.result k 0)) c.requires.sums c.requires.stripe (omega arith) (omega arith) next

pub loop-label-preserved : goal.loop-label-preserved
loop-label-preserved c =
    let n : ℕ = (numbers c.args.words.now).labels in let r : ReporterView = reading c.args.seat.now in let l : ℕ = c.loop-label.label in let end = c.labels-label-end.ensures in
    let long = c.loop-label.invariant.long in let labels = c.requires.rows in let same = c.loop-label.invariant.same in
    let wide = length-merged_to n (open_cell n r) c.args.stripe l c.loop-label.into.rows c.loop-label.invariant.folded in
    record {
      seated = c.read_cells-cells.ensures.seat;
      same = c.read_cells-cells.ensures.same ∙ same;
      long = ap (λ (rows : List Row). length rows) c.fold.ensures.rows ∙ length-set c.loop-label.into.rows l _ ∙ long;
      folded = c.fold.ensures.rows ∙ cells_folded n c.args.stripe l (open_cell n r) c.read_cells-cells.result c.loop-label.into.rows (omega arith)
          (λ k low. c.read_cells-cells.ensures.cells k low ∙ ap (λ (q : ReporterView). open_cell n q (cell_of n c.args.stripe l k)) same) c.loop-label.invariant.folded;
    }

pub returns-clause-folded : goal.returns-clause-folded
returns-clause-folded c =
    let n : ℕ = (numbers c.args.words.now).labels in let end = c.labels-label-end.ensures in
    stripe_whole n c.args.stripe c.loop-label.label (open_cell n (reading c.args.seat.now)) c.loop-label.into.rows c.loop-label.invariant.folded (omega arith)
