use Rattle.std.proofs.Common.{◌≡◌, ◌+◌, ◌*◌, ◌<◌, ℕ, List, length, get_or, sym, refl, ap, ◌∙◌, subst, arith, length-set}
use Rattle.interval_tables.specs.declared.row.Row.{Row}
use Rattle.interval_tables.specs.Rows.{rows_folded}
use Rattle.phaser_core.specs.declared.view.ReporterView.{ReporterView}
use Rattle.phaser_core.specs.Cells.{table_cells}
use Rattle.phaser_core.proofs.CellSteps.{cell_low}
use Rattle.phaser_words.specs.WordSeats.{reading, numbers}
use Rattle.recorder_core.proofs.Cellwise.{StripeTaken, stripe_begins, stripe_next, stripe_room, stripe_ends, harvests_at}
use Rattle.recorder_core.proofs.rows.take_stripe.Goals as goal

pub loop-label-init : goal.loop-label-init
loop-label-init c =
    let labels = c.requires.rows.1 in let some = c.requires.rows.0 in
    record {
      seated = c.requires.seat;
      interval = refl;
      long = refl;
      taken = stripe_begins (numbers c.args.words.now).labels c.args.stripe (reading c.args.seat.now) c.args.into.now.rows c.requires.stripe (omega arith) c.requires.seat.1 c.requires.begun c.requires.count c.requires.folded;
    }

pub take_cells-cells-requires-clause-begun : goal.take_cells-cells-requires-clause-begun
take_cells-cells-requires-clause-begun c =
    let r : ReporterView = reading c.args.seat.now in let t = c.loop-label.invariant.taken in let labels = c.requires.seat.1 in let end = c.labels-label-end.ensures in
    let b = cell_low (numbers c.args.words.now).labels c.args.stripe c.loop-label.label 0 c.requires.stripe (omega arith) (omega arith) in
    harvests_at r (reading c.loop-label.seat) t.cells (6 * (c.args.stripe * (numbers c.args.words.now).labels + c.loop-label.label)) t.taken (omega arith)

pub fold-requires-clause-room : goal.fold-requires-clause-room
fold-requires-clause-room c =
    let r : ReporterView = reading c.args.seat.now in let labels = c.requires.rows.1 in let end = c.labels-label-end.ensures in let long = c.loop-label.invariant.long in
    let l : ℕ = c.loop-label.label in let n : ℕ = (numbers c.args.words.now).labels in
    let next = stripe_next n c.args.stripe l r (reading c.loop-label.seat) (reading c.take_cells-cells.new.seat) c.loop-label.into.rows c.take_cells-cells.result c.requires.stripe (omega arith) c.requires.seat.1 (omega arith) c.take_cells-cells.ensures.six c.loop-label.invariant.taken c.take_cells-cells.ensures.taken c.take_cells-cells.ensures.sums in
    stripe_room n c.args.stripe l r (reading c.take_cells-cells.new.seat) (rows_folded c.loop-label.into.rows l (λ (k : ℕ). get_or c.take_cells-cells.result k 0)) c.requires.stripe (omega arith) next

pub loop-label-preserved : goal.loop-label-preserved
loop-label-preserved c =
    let r : ReporterView = reading c.args.seat.now in let labels = c.requires.rows.1 in let end = c.labels-label-end.ensures in let long = c.loop-label.invariant.long in
    let l : ℕ = c.loop-label.label in let n : ℕ = (numbers c.args.words.now).labels in
    let next = stripe_next n c.args.stripe l r (reading c.loop-label.seat) (reading c.take_cells-cells.new.seat) c.loop-label.into.rows c.take_cells-cells.result c.requires.stripe (omega arith) c.requires.seat.1 (omega arith) c.take_cells-cells.ensures.six c.loop-label.invariant.taken c.take_cells-cells.ensures.taken c.take_cells-cells.ensures.sums in
    record {
      seated = c.take_cells-cells.ensures.seat;
      interval = c.fold.ensures.interval ∙ c.loop-label.invariant.interval;
      long = ap (λ (rows : List Row). length rows) c.fold.ensures.rows ∙ length-set c.loop-label.into.rows l _ ∙ long;
      taken = subst (StripeTaken n c.args.stripe (l + 1) r (reading c.take_cells-cells.new.seat)) (sym c.fold.ensures.rows) next;
    }

pub returns-clause-taken : goal.returns-clause-taken
returns-clause-taken c =
    let labels = c.requires.rows.1 in let some = c.requires.rows.0 in let end = c.labels-label-end.ensures in
    stripe_ends (numbers c.args.words.now).labels c.args.stripe c.loop-label.label (reading c.args.seat.now) (reading c.loop-label.seat) c.loop-label.into.rows (omega arith) (omega arith) c.loop-label.invariant.taken
