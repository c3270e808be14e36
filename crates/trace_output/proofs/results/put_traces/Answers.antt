use Rattle.std.proofs.Common.{◌≡◌, ◌<◌, ◌≤◌, ◌∙◌, length, get_or, ap, subst, arith}
use Rattle.std.proofs.lemmas.Result.{err_from_is_err_and}
use Rattle.std.proofs.lemmas.List.{take_all}
use Rattle.trace_output.specs.Texts.{trace_text, traces_text}
use Rattle.trace_output.specs.Printing.{way, IsPut}
use Rattle.trace_output.proofs.PrintingLaws.{each_put, each_short}
use Rattle.trace_output.proofs.results.put_traces.Goals as goal

pub returns-in_err-put_trace : goal.returns-in_err-put_trace
returns-in_err-put_trace g c =
    let p = err_from_is_err_and c.from_residual.result c.from_residual.ensures.1 in
    let low : c.loop-thread.thread < length c.args.traces.now = omega (arith, c.loop-thread-test.true, c.threads-thread-end.ensures.count, c.requires.threads) in
    let here : c.as_slice-trace.result.now ≡ get_or c.args.traces.now c.loop-thread.thread c.index-traces-from.result = c.as_slice-trace.ensures ∙ (c.index-traces-from.is ∙ ap (λ i. get_or c.args.traces.now i c.index-traces-from.result) c.from.ensures) in
    rw (p.1, p.2) (each_short (trace_text c.args.plan.now) c.args.traces.now c.loop-thread.thread c.index-traces-from.result low c.as_slice-trace.result.now here _ _ _ c.loop-thread.invariant _ c.in_err-put_trace.ensures)

pub loop-thread-preserved : goal.loop-thread-preserved
loop-thread-preserved g c =
    let low : c.loop-thread.thread < length c.args.traces.now = omega (arith, c.loop-thread-test.true, c.threads-thread-end.ensures.count, c.requires.threads) in
    let here : c.as_slice-trace.result.now ≡ get_or c.args.traces.now c.loop-thread.thread c.index-traces-from.result = c.as_slice-trace.ensures ∙ (c.index-traces-from.is ∙ ap (λ i. get_or c.args.traces.now i c.index-traces-from.result) c.from.ensures) in
    each_put (trace_text c.args.plan.now) c.args.traces.now c.loop-thread.thread c.index-traces-from.result low c.as_slice-trace.result.now here _ _ _ c.loop-thread.invariant c.in_ok-put_trace.ensures

pub returns : goal.returns
returns g c =
    let all : length c.args.traces.now ≤ c.loop-thread.thread = omega (arith, c.loop-thread-test.false, c.threads-thread-end.ensures.count, c.requires.threads) in
    subst (λ traces. IsPut (traces_text c.args.plan.now traces)
    (way (g.K.Sink.written c.args.sink.now) (g.K.Sink.faults c.args.sink.now) c.args.pending.now) (way (g.K.Sink.written c.loop-thread.sink) (g.K.Sink.faults c.loop-thread.sink) c.loop-thread.pending))
    (take_all c.loop-thread.thread c.args.traces.now all) c.loop-thread.invariant
