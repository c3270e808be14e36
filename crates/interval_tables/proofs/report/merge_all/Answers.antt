use Rattle.std.proofs.Common.{◌∙◌, arith}
use Rattle.interval_tables.proofs.Bounds.{can_merge_there, merged_there, merged_all}
use Rattle.interval_tables.proofs.report.merge_all.Goals as goal

pub merged-row-requires : goal.merged-row-requires
merged-row-requires c = λ _ _. can_merge_there c.loop-label.rows c.args.rows.now c.args.others.now c.loop-label.label _ _ c.loop-label.invariant c.requires.room (omega arith) c.requires.rows

pub loop-label-preserved : goal.loop-label-preserved
loop-label-preserved c = merged_there c.loop-label.rows c.args.rows.now c.args.others.now c.loop-label.label _ _ c.merged-row.result c.loop-label.invariant c.merged-row.ensures (omega arith) c.requires.rows

pub returns : goal.returns
returns c = c.loop-label.invariant ∙ merged_all c.args.rows.now c.args.others.now c.loop-label.label c.requires.rows (omega arith)
