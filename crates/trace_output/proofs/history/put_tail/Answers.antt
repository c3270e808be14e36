use Rattle.std.proofs.lemmas.Result.{err_from_is_err_and}
use Rattle.trace_output.proofs.PrintingLaws.{put_more, first_short, second_short}
use Rattle.trace_output.proofs.history.put_tail.Goals as goal

pub returns-in_err-put_summary : goal.returns-in_err-put_summary
returns-in_err-put_summary g c =
    let p = err_from_is_err_and c.from_residual.result c.from_residual.ensures.1 in
    rw (p.1, p.2) (first_short _ _ _ _ _ c.in_err-put_summary.ensures)

pub returns-in_err-put_ends : goal.returns-in_err-put_ends
returns-in_err-put_ends g c =
    let p = err_from_is_err_and c.from_residual-in_err-put_ends.result c.from_residual-in_err-put_ends.ensures.1 in
    rw (p.1, p.2) (second_short _ _ _ _ _ _ c.in_ok-put_summary.ensures c.in_err-put_ends.ensures)

pub returns : goal.returns
returns g c = put_more _ _ _ _ _ c.in_ok-put_summary.ensures c.in_ok-put_ends.ensures
