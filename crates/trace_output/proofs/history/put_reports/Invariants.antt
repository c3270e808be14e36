use Rattle.std.proofs.Common.{take}
use Rattle.trace_output.specs.Texts.{reports_text}
use Rattle.trace_output.specs.Printing.{way, IsPut}
use Rattle.trace_output.proofs.history.put_reports.Given as goal

-- the lines of the reports so far are put
abbrev pub invariant-loop-report : goal.invariant-loop-report
invariant-loop-report g l = IsPut (reports_text l.plan (take l.report-index l.closed))
    (way (g.K.Sink.written l.fn.sink) (g.K.Sink.faults l.fn.sink) l.fn.pending)
    (way (g.K.Sink.written l.sink) (g.K.Sink.faults l.sink) l.pending)
