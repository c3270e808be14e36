use Rattle.std.proofs.Common.{◌+◌, ◌≤◌, arith, get_or, refl}
use Rattle.interval_tables.specs.declared.row.Row.{Row}
use Rattle.interval_tables.specs.Totals.{total}
use Rattle.interval_tables.specs.Rows.{no_samples}
use Rattle.interval_tables.proofs.Totals.{sum_low, sum_next}
use Rattle.output_lines.proofs.reports.bytes_in.Goals as goal

pub overflow_add-bytes : goal.overflow_add-bytes
overflow_add-bytes c =
    let rows = c.args.rows.now in
    let low : c.loop-row.bytes + (get_or rows c.loop-row.row-index no_samples).bytes ≤ total (λ (r : Row). r.bytes) rows =
    sum_low (λ (r : Row). r.bytes) rows rows c.loop-row.row-index c.loop-row.bytes no_samples refl c.loop-row.invariant c.loop-row-test.true in
    let bounds = c.requires.bytes in omega arith

pub loop-row-preserved : goal.loop-row-preserved
loop-row-preserved c = sum_next (λ (r : Row). r.bytes) c.args.rows.now c.loop-row.row-index c.loop-row.bytes no_samples c.loop-row.invariant c.loop-row-test.true
