use Rattle.std.proofs.Common.{◌≡◌, ◌==◌, ◌∙◌, ℕ, cond, slice_index, ap, arith}
use Rattle.interval_tables.specs.declared.row.Row.{Row}
use Rattle.interval_tables.specs.Rows.{no_samples, row_cells}
use Rattle.phaser_core.specs.Cells.{folded_to}
use Rattle.phaser_core.proofs.CellSteps.{fold_none, fold_more}
use Rattle.phaser_core.proofs.reporter.row.Goals as goal

pub loop-stripe-init : goal.loop-stripe-init
loop-stripe-init c = fold_none c.args.labels (λ j. slice_index c.args.cells.now j) c.args.label

pub loop-stripe-preserved : goal.loop-stripe-preserved
loop-stripe-preserved c =
    c.fold_row-row.ensures ∙ fold_more c.args.labels c.loop-stripe.stripe c.args.label (λ j. slice_index c.args.cells.now j) c.loop-stripe.row _ c.loop-stripe.invariant (c.first_cell-first.ensures.cell ∙ omega arith)

pub returns : goal.returns
returns c =
    let all : c.loop-stripe.stripe ≡ 4 = omega arith in
    c.plain_row.ensures ∙ ap (λ (r : Row). cond (r.count == 0) no_samples r)
    (c.loop-stripe.invariant ∙ ap (λ (s : ℕ). row_cells (folded_to c.args.labels (λ j. slice_index c.args.cells.now j) s c.args.label)) all)
