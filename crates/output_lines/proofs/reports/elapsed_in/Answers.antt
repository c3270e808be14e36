use Rattle.std.proofs.Common.{◌+◌, ◌≤◌, arith, get_or, refl}
use Rattle.interval_tables.specs.declared.row.Row.{Row}
use Rattle.interval_tables.specs.Totals.{total}
use Rattle.interval_tables.specs.Rows.{no_samples}
use Rattle.interval_tables.proofs.Totals.{sum_low, sum_next}
use Rattle.output_lines.proofs.reports.elapsed_in.Goals as goal

pub overflow_add-elapsed : goal.overflow_add-elapsed
overflow_add-elapsed c =
    let rows = c.args.rows.now in
    let low : c.loop-row.elapsed + (get_or rows c.loop-row.row-index no_samples).total ≤ total (λ (r : Row). r.total) rows =
    sum_low (λ (r : Row). r.total) rows rows c.loop-row.row-index c.loop-row.elapsed no_samples refl c.loop-row.invariant c.loop-row-test.true in
    let bounds = c.requires.totals in omega arith

pub loop-row-preserved : goal.loop-row-preserved
loop-row-preserved c = sum_next (λ (r : Row). r.total) c.args.rows.now c.loop-row.row-index c.loop-row.elapsed no_samples c.loop-row.invariant c.loop-row-test.true
