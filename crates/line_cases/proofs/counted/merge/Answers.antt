use Rattle.std.proofs.Common.{◌∙◌, sym, subst, arith}
use Rattle.interval_tables.specs.Rows.{IsInBounds}
use Rattle.line_cases.proofs.Counts.{as_long, in_bounds, merged_in_bounds}
use Rattle.line_cases.proofs.counted.merge.Goals as goal

pub merge-requires-clause-rows : goal.merge-requires-clause-rows
merge-requires-clause-rows c = as_long _ _ _ c.requires.1 ∙ sym (as_long _ _ _ c.requires.0)

pub merge-requires-clause-bounds : goal.merge-requires-clause-bounds
merge-requires-clause-bounds c = in_bounds _ 1000 _ c.requires.0 (omega arith)

pub merge-requires-clause-other_bounds : goal.merge-requires-clause-other_bounds
merge-requires-clause-other_bounds c = in_bounds _ 1000 _ c.requires.1 (omega arith)

pub merge-requires-clause-room : goal.merge-requires-clause-room
merge-requires-clause-room c = merged_in_bounds _ 1000 1000 _ _ c.requires.0 c.requires.1 (omega arith)

pub returns : goal.returns
returns c = subst IsInBounds (sym c.merge.ensures.rows) (merged_in_bounds _ 1000 1000 _ _ c.requires.0 c.requires.1 (omega arith))
