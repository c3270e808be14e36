use Rattle.std.proofs.Common.{length, sym, subst, ◌∙◌, ◌+◌, arith}
use Rattle.element_tree.specs.Names.{labels_of}
use Rattle.interval_tables.specs.Rows.{IsInBounds}
use Rattle.trace_output.specs.Texts.{CanPrint}
use Rattle.jm_command.proofs.WeaveLaws.{so_far_length, one_more}
use Rattle.jm_command.proofs.weaving.total_of.Goals as goal

pub merge-requires-clause-rows : goal.merge-requires-clause-rows
merge-requires-clause-rows c =
    let can = subst (CanPrint c.args.plan.now) (sym c.report-item.is) (c.requires.each c.reports.report-index c.report-item.result c.reports-test.true) in
    can.0 ∙ sym (so_far_length (length (labels_of c.args.plan.now.elements)) c.args.reports.now c.reports.report-index c.report-item.result c.reports-test.true c.report-item.is c.reports.total.rows c.reports.invariant)

pub merge-requires-clause-room : goal.merge-requires-clause-room
merge-requires-clause-room c =
    let low = c.reports-test.true in
    subst IsInBounds (sym (one_more (length (labels_of c.args.plan.now.elements)) c.args.reports.now c.reports.report-index c.report-item.result c.reports-test.true c.report-item.is c.reports.total.rows c.reports.invariant))
    (c.requires.fits (c.reports.report-index + 1) (omega arith))

pub reports-preserved : goal.reports-preserved
reports-preserved c =
    c.merge.ensures.rows ∙ one_more (length (labels_of c.args.plan.now.elements)) c.args.reports.now c.reports.report-index c.report-item.result c.reports-test.true c.report-item.is c.reports.total.rows c.reports.invariant
