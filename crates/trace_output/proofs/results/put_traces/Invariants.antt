use Rattle.std.proofs.Common.{take}
use Rattle.trace_output.specs.Texts.{traces_text}
use Rattle.trace_output.specs.Printing.{way, IsPut}
use Rattle.trace_output.proofs.results.put_traces.Given as goal

-- the lines of the threads so far are put
abbrev pub invariant-loop-thread : goal.invariant-loop-thread
invariant-loop-thread g l = IsPut (traces_text l.plan (take l.thread l.traces))
    (way (g.K.Sink.written l.fn.sink) (g.K.Sink.faults l.fn.sink) l.fn.pending)
    (way (g.K.Sink.written l.sink) (g.K.Sink.faults l.sink) l.pending)
