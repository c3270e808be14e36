use Rattle.std.proofs.Common.{length, ◌∙◌}
use Rattle.interval_tables.proofs.Bounds.{can_merge}
use Rattle.interval_tables.proofs.Sums.{sum_of_append}
use Rattle.interval_tables.specs.Rows.{merged_rows}
use Rattle.interval_tables.proofs.report.Report.merge.Goals as goal

pub merge-requires-clause-room : goal.merge-requires-clause-room
merge-requires-clause-room c = can_merge c.args.self.now.rows c.args.other.now.rows c.requires.bounds c.requires.other_bounds

pub returns-clause-sum : goal.returns-clause-sum
returns-clause-sum c = λ es fs mine theirs. c.merge.ensures ∙ (λ i. merged_rows (mine i) (theirs i)) ∙ sum_of_append (length c.args.self.now.rows) es fs
