use Rattle.std.proofs.Common.{ap, ◌∙◌}
use Rattle.jm_command.proofs.CountLaws.{stays_in_bounds, sum_same, has_row, has_room, sum_next}
use Rattle.jm_command.proofs.report.counted.Goals.{in-Sampled, in_default}
use Rattle.jm_command.proofs.report.counted.Goals as goal

pub count-requires-clause-label : goal.count-requires-clause-label
count-requires-clause-label c =
    has_row _ _ c.args.trace.now c.items.item-index c.items.invariant.sum c.item-item.result c.items-test.true c.item-item.is c.in-Sampled.sample c.in-Sampled.interval
    c.entry.result c.in-Sampled.is c.entry.ensures c.requires.labels

pub count-requires-clause-bounds : goal.count-requires-clause-bounds
count-requires-clause-bounds c = stays_in_bounds _ _ c.args.trace.now c.items.item-index c.items.invariant.sum c.requires.few

pub count-requires-clause-room : goal.count-requires-clause-room
count-requires-clause-room c =
    has_room _ _ c.args.trace.now c.items.item-index c.items.invariant.sum c.item-item.result c.items-test.true c.item-item.is c.in-Sampled.sample c.in-Sampled.interval
    c.entry.result c.in-Sampled.is c.entry.ensures c.requires.labels c.requires.few

pub items-preserved : goal.items-preserved
items-preserved c = elim c.match-item.branch [
  | in-Sampled w ↦ record {
    interval = ap (λ r. r.interval) w.total-is ∙ w.count.ensures.interval ∙ c.items.invariant.interval;
    sum = sum_next _ _ c.args.trace.now c.items.item-index c.items.invariant.sum c.item-item.result c.items-test.true c.item-item.is w.in-Sampled.sample w.in-Sampled.interval
        w.entry.result w.in-Sampled.is w.entry.ensures c.requires.labels w.count.ensures.elapsed w.count.ensures.bytes _ (ap (λ r. r.rows) w.total-is ∙ w.count.ensures.rows);
  }
  | in_default w ↦ record {
    interval = ap (λ r. r.interval) w.total-is ∙ c.items.invariant.interval;
    sum = sum_same _ _ c.args.trace.now c.items.item-index c.items.invariant.sum c.item-item.result c.items-test.true c.item-item.is w.in_default.not-Sampled
        _ (ap (λ r. r.rows) w.total-is);
  }
]

pub returns-clause-bounds : goal.returns-clause-bounds
returns-clause-bounds c = stays_in_bounds _ _ c.args.trace.now c.items.item-index c.items.invariant.sum c.requires.few
