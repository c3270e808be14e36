use Rattle.std.proofs.Common.{ℕ, get_or, set, sym, ◌∙◌, subst}
use Rattle.interval_tables.specs.declared.row.Row.{Row}
use Rattle.interval_tables.specs.Rows.{no_samples, row_from, merged, CanMergeSamples}
use Rattle.interval_tables.proofs.Folding.{can_fold}
use Rattle.interval_tables.proofs.report.Report.fold.Goals as goal

pub merged-row-requires : goal.merged-row-requires
merged-row-requires c =
    subst (λ (z : Row × Row). CanMergeSamples z.0 z.1)
    (λ i. (get_or (sym c.as_slice.ensures i) (sym c.from-index.ensures i) no_samples, sym c.of_cells-more.ensures i))
    (can_fold c.args.self.now.rows c.args.label (row_from (λ (k : ℕ). get_or c.args.cells.now k 0)) c.requires.label c.requires.room)

pub returns-clause-rows : goal.returns-clause-rows
returns-clause-rows c =
    c.put.ensures ∙ (λ i. set c.args.self.now.rows (c.from-index.ensures i)
    ((c.merged-row.ensures ∙ (λ j. merged (get_or (c.as_slice.ensures j) (c.from-index.ensures j) no_samples) (c.of_cells-more.ensures j))) i))
