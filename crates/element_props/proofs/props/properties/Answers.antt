use Rattle.std.proofs.Common.{arith}
use Rattle.std.proofs.lemmas.Result.{err_from_is_err_and}
use Rattle.element_props.proofs.ReadsLaws.{no_memory_after}
use Rattle.element_props.proofs.PropsLoop.{rows_start, row_done, row_fails, rows_end, same_row, short_at}
use Rattle.element_props.proofs.props.properties.Goals as goal

pub rows-init : goal.rows-init
rows-init g c = rw (c.new-found.ensures.items) (rows_start _ _)

pub rows-preserved : goal.rows-preserved
rows-preserved g c = rw (c.in_ok-push.ensures.items, c.of.ensures) (row_done _ _ _ _ _ _ _ _ _ c.rows-test.true (same_row _ _ _ c.rows-test.true) c.rows.invariant _ c.in_ok-property.ensures)

pub returns-in_err-property : goal.returns-in_err-property
returns-in_err-property g c = let p = err_from_is_err_and c.from_residual.result c.from_residual.ensures.1 in
    rw (p.1, p.2) (row_fails _ _ _ _ _ _ _ _ _ c.rows-test.true (same_row _ _ _ c.rows-test.true) c.rows.invariant _ c.in_err-property.ensures)

pub returns : goal.returns
returns g c = rows_end _ _ _ _ _ _ _ (omega arith) c.rows.invariant

pub property-requires : goal.property-requires
property-requires g c = short_at _ _ _ c.rows-test.true (same_row _ _ _ c.rows-test.true) c.requires

pub returns-in_err-push : goal.returns-in_err-push
returns-in_err-push g c =
    let p = err_from_is_err_and c.from_residual-in_err-push.result c.from_residual-in_err-push.ensures.1 in
    rw p.1 (row_fails _ _ _ _ _ _ _ _ _ c.rows-test.true (same_row _ _ _ c.rows-test.true) c.rows.invariant _ (no_memory_after _ _ _ _ _ c.in_ok-property.ensures p.2))
