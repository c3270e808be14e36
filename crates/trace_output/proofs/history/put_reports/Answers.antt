use Rattle.std.proofs.Common.{◌<◌, ◌≤◌, length, subst, sym, arith}
use Rattle.std.proofs.lemmas.Result.{err_from_is_err_and}
use Rattle.std.proofs.lemmas.List.{take_all}
use Rattle.output_lines.specs.Reports.{report_text}
use Rattle.trace_output.specs.Texts.{reports_text, CanPrint}
use Rattle.trace_output.specs.Printing.{way, IsPut}
use Rattle.trace_output.proofs.PrintingLaws.{each_put, each_short}
use Rattle.trace_output.proofs.history.put_reports.Goals as goal

pub put_report-requires : goal.put_report-requires
put_report-requires g c =
    let low : c.loop-report.report-index < length c.args.closed.now = omega (arith, c.loop-report-test.true) in
    subst (CanPrint c.args.plan.now) (sym c.report-item.is) (c.requires c.loop-report.report-index c.report-item.result low)

pub returns-in_err-put_report : goal.returns-in_err-put_report
returns-in_err-put_report g c =
    let p = err_from_is_err_and c.from_residual.result c.from_residual.ensures.1 in
    let low : c.loop-report.report-index < length c.args.closed.now = omega (arith, c.loop-report-test.true) in
    rw (p.1, p.2) (each_short (λ n. report_text c.args.plan.now) c.args.closed.now c.loop-report.report-index c.report-item.result low c.report-item.result c.report-item.is _ _ _ c.loop-report.invariant
    _ c.in_err-put_report.ensures)

pub loop-report-preserved : goal.loop-report-preserved
loop-report-preserved g c =
    let low : c.loop-report.report-index < length c.args.closed.now = omega (arith, c.loop-report-test.true) in
    each_put (λ n. report_text c.args.plan.now) c.args.closed.now c.loop-report.report-index c.report-item.result low c.report-item.result c.report-item.is _ _ _ c.loop-report.invariant
    c.in_ok-put_report.ensures

pub returns : goal.returns
returns g c =
    let all : length c.args.closed.now ≤ c.loop-report.report-index = omega (arith, c.loop-report-test.false) in
    subst (λ reports. IsPut (reports_text c.args.plan.now reports)
    (way (g.K.Sink.written c.args.sink.now) (g.K.Sink.faults c.args.sink.now) c.args.pending.now) (way (g.K.Sink.written c.loop-report.sink) (g.K.Sink.faults c.loop-report.sink) c.loop-report.pending))
    (take_all c.loop-report.report-index c.args.closed.now all) c.loop-report.invariant
