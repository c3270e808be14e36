use Rattle.std.proofs.Common.{arith}
use Rattle.line_cases.proofs.Counts.{as_long, in_bounds, can_count, one_more}
use Rattle.line_cases.proofs.counted.report_of.Goals as goal

pub count-requires-clause-label : goal.count-requires-clause-label
count-requires-clause-label c = let long = as_long _ _ _ c.samples.invariant in omega (arith, c.if-entry-labels.false)

pub count-requires-clause-bounds : goal.count-requires-clause-bounds
count-requires-clause-bounds c = in_bounds _ c.samples.entry-index _ c.samples.invariant (omega (arith, c.requires, c.samples-test.true))

pub count-requires-clause-room : goal.count-requires-clause-room
count-requires-clause-room c = λ elapsed bytes.
    (can_count _ c.samples.entry-index _ _ c.samples.invariant (omega (arith, c.requires, c.samples-test.true)) (omega (arith, c.if-entry-labels.false)) elapsed bytes).room

pub samples-preserved : goal.samples-preserved
samples-preserved c = one_more _ c.samples.entry-index c.samples.report.rows _ _ c.samples.invariant (omega (arith, c.if-entry-labels.false)) c.count.ensures.elapsed c.count.ensures.bytes c.count.ensures.rows
