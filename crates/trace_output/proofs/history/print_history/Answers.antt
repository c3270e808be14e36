use Rattle.std.proofs.lemmas.Result.{err_from_is_err_and}
use Rattle.trace_output.proofs.PrintingLaws.{first_printed, second_printed, last_printed}
use Rattle.trace_output.proofs.history.print_history.Goals as goal

pub returns-in_err-put_reports : goal.returns-in_err-put_reports
returns-in_err-put_reports g c =
    let p = err_from_is_err_and c.from_residual.result c.from_residual.ensures.1 in
    rw (p.1, p.2) (first_printed _ _ _ _ c.in-Ok.pending c.in-Ok.ensures _ _ c.in_err-put_reports.ensures)

pub returns-in_err-put_tail : goal.returns-in_err-put_tail
returns-in_err-put_tail g c =
    let p = err_from_is_err_and c.from_residual-in_err-put_tail.result c.from_residual-in_err-put_tail.ensures.1 in
    rw (p.1, p.2) (second_printed _ _ _ _ c.in-Ok.pending c.in-Ok.ensures _ c.in_ok-put_reports.ensures _ _ c.in_err-put_tail.ensures)

pub returns : goal.returns
returns g c = last_printed _ _ _ _ c.in-Ok.pending c.in-Ok.ensures _ c.in_ok-put_reports.ensures _ c.in_ok-put_tail.ensures _ _ c.finish.result c.finish.ensures.never c.finish.ensures.printed
