use Rattle.std.proofs.lemmas.Result.{err_from_is_err_and}
use Rattle.trace_output.proofs.PrintingLaws.{first_printed, second_printed, last_printed}
use Rattle.trace_output.proofs.results.print_results.Goals as goal

pub returns-in_err-put_header : goal.returns-in_err-put_header
returns-in_err-put_header g c =
    let p = err_from_is_err_and c.from_residual.result c.from_residual.ensures.1 in
    rw (p.1, p.2) (first_printed _ _ _ _ c.in-Ok.pending c.in-Ok.ensures _ _ c.in_err-put_header.ensures)

pub returns-in_err-put_trace : goal.returns-in_err-put_trace
returns-in_err-put_trace g c =
    let p = err_from_is_err_and c.from_residual-in_err-put_trace.result c.from_residual-in_err-put_trace.ensures.1 in
    rw (p.1, p.2) (second_printed _ _ _ _ c.in-Ok.pending c.in-Ok.ensures _ c.in_ok-put_header.ensures _ _ c.in_err-put_trace.ensures)

pub returns : goal.returns
returns g c = last_printed _ _ _ _ c.in-Ok.pending c.in-Ok.ensures _ c.in_ok-put_header.ensures _ c.in_ok-put_trace.ensures _ _ c.finish.result c.finish.ensures.never c.finish.ensures.printed
