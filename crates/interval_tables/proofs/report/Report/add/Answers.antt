use Rattle.std.proofs.Common.{get_or, set, sym, ◌∙◌, subst}
use Rattle.interval_tables.specs.declared.row.Row.{Row}
use Rattle.interval_tables.specs.Rows.{no_samples, with_entry, CanTake}
use Rattle.interval_tables.proofs.Bounds.{can_take}
use Rattle.interval_tables.proofs.Sums.{added_sum}
use Rattle.interval_tables.proofs.report.Report.add.Goals as goal

pub with-row-requires : goal.with-row-requires
with-row-requires c = subst (λ (r : Row). CanTake r c.args.entry) (λ i. get_or (sym c.as_slice.ensures i) (sym c.from-label.ensures i) no_samples) (can_take c.args.self.now.rows c.args.entry c.requires.label c.requires.room)

pub returns-clause-rows : goal.returns-clause-rows
returns-clause-rows c = c.put.ensures ∙ (λ i. set c.args.self.now.rows (c.from-label.ensures i) ((c.with-row.ensures ∙ (λ j. with_entry (get_or (c.as_slice.ensures j) (c.from-label.ensures j) no_samples) c.args.entry)) i))

pub returns-clause-sum : goal.returns-clause-sum
returns-clause-sum c = λ es is. returns-clause-rows c ∙ added_sum c.args.self.now.rows es c.args.entry c.requires.label is
