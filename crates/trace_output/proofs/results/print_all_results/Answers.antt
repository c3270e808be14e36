use Rattle.std.proofs.lemmas.Result.{err_from_is_err_and}
use Rattle.trace_output.proofs.PrintingLaws.{first_printed, second_printed, last_printed}
use Rattle.trace_output.proofs.results.print_all_results.Goals as goal

pub returns-in_err-put_header : goal.returns-in_err-put_header
returns-in_err-put_header g c =
    let p = err_from_is_err_and c.from_residual.result c.from_residual.ensures.1 in
    rw (p.1, p.2) (first_printed _ _ _ _ c.in-Ok.pending c.in-Ok.ensures _ _ c.in_err-put_header.ensures)

pub returns-in_err-put_traces : goal.returns-in_err-put_traces
returns-in_err-put_traces g c =
    let p = err_from_is_err_and c.from_residual-in_err-put_traces.result c.from_residual-in_err-put_traces.ensures.1 in
    rw (p.1, p.2) (second_printed _ _ _ _ c.in-Ok.pending c.in-Ok.ensures _ c.in_ok-put_header.ensures _ _ c.in_err-put_traces.ensures)

pub returns : goal.returns
returns g c = last_printed _ _ _ _ c.in-Ok.pending c.in-Ok.ensures _ c.in_ok-put_header.ensures _ c.in_ok-put_traces.ensures _ _ c.finish.result c.finish.ensures.never c.finish.ensures.printed
