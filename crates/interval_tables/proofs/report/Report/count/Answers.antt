use Rattle.std.proofs.Common.{◌+◌, ◌≤◌, ap, ◌∙◌, arith, get_or}
use Rattle.interval_tables.specs.declared.row.Row.{Row}
use Rattle.jm_base.specs.SumTotals.{total}
use Rattle.interval_tables.specs.Rows.{no_samples}
use Rattle.interval_tables.proofs.Totals.{sum_low, sum_next, sum_done}
use Rattle.interval_tables.proofs.Sums.{counts_over}
use Rattle.interval_tables.proofs.report.Report.count.Goals as goal

pub overflow_add-count : goal.overflow_add-count
overflow_add-count c =
    let items = c.as_slice-row-items.result.now in
    let low : c.loop-row.count + (get_or items c.loop-row.row-index no_samples).count ≤ total (λ (r : Row). r.count) c.args.self.now.rows =
    sum_low (λ (r : Row). r.count) c.args.self.now.rows items c.loop-row.row-index c.loop-row.count no_samples c.as_slice-row-items.ensures c.loop-row.invariant c.loop-row-test.true in
    let bounds = c.requires.counts in omega arith

pub loop-row-preserved : goal.loop-row-preserved
loop-row-preserved c = sum_next (λ (r : Row). r.count) c.as_slice-row-items.result.now c.loop-row.row-index c.loop-row.count no_samples c.loop-row.invariant c.loop-row-test.true

pub returns-clause-rows : goal.returns-clause-rows
returns-clause-rows c = sum_done (λ (r : Row). r.count) c.args.self.now.rows c.as_slice-row-items.result.now c.loop-row.row-index c.loop-row.count c.as_slice-row-items.ensures c.loop-row.invariant (omega arith)

pub returns-clause-sum : goal.returns-clause-sum
returns-clause-sum c = λ es is low. returns-clause-rows c ∙ ap (total (λ (r : Row). r.count)) is ∙ counts_over _ es low
