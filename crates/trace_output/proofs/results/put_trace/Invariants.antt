use Rattle.std.proofs.Common.{◌≡◌, ℕ, List, ◌++◌, length}
use Rattle.std.specs.Prelude.{All}
use Rattle.element_tree.specs.Names.{labels_of}
use Rattle.thread_machine.specs.Bare.{IsLabelled}
use Rattle.trace_output.specs.Texts.{trace_text}
use Rattle.trace_output.specs.Printing.{way, IsPut}
use Rattle.trace_output.proofs.results.put_trace.Given as goal

-- the lines of the items so far are put, and with those of the rest they are the lines of the trace
abbrev pub invariant-texts : goal.invariant-texts
invariant-texts g l = record {
  whose : l.lines ≡ record { plan = l.plan; thread = l.thread };
  labels : All (IsLabelled (length (labels_of l.plan.elements))) l.rest;
  put : (done : List ℕ) × IsPut done
      (way (g.K.Sink.written l.fn.sink) (g.K.Sink.faults l.fn.sink) l.fn.pending)
      (way (g.K.Sink.written l.sink) (g.K.Sink.faults l.sink) l.pending)
      × (done ++ trace_text l.plan l.thread l.rest ≡ trace_text l.plan l.thread l.trace);
}

abbrev pub decreases-texts : goal.decreases-texts
decreases-texts g l = length l.rest
