use Rattle.std.proofs.lemmas.Result.{err_from_is_err_and}
use Rattle.trace_output.proofs.PrintingLaws.{first_printed, second_printed, last_printed}
use Rattle.trace_output.proofs.tail.print_report.Goals as goal

pub returns-in_err-put_summary : goal.returns-in_err-put_summary
returns-in_err-put_summary g c =
    let p = err_from_is_err_and c.from_residual.result c.from_residual.ensures.1 in
    rw (p.1, p.2) (first_printed _ _ _ _ c.in-Ok.pending c.in-Ok.ensures _ _ c.in_err-put_summary.ensures)

pub returns-in_err-put_end : goal.returns-in_err-put_end
returns-in_err-put_end g c =
    let p = err_from_is_err_and c.from_residual-in_err-put_end.result c.from_residual-in_err-put_end.ensures.1 in
    rw (p.1, p.2) (second_printed _ _ _ _ c.in-Ok.pending c.in-Ok.ensures _ c.in_ok-put_summary.ensures _ _ c.in_err-put_end.ensures)

pub returns : goal.returns
returns g c = last_printed _ _ _ _ c.in-Ok.pending c.in-Ok.ensures _ c.in_ok-put_summary.ensures _ c.in_ok-put_end.ensures _ _ c.finish.result c.finish.ensures.never c.finish.ensures.printed
