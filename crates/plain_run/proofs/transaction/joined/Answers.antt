use Rattle.std.proofs.Common.{arith}
use Rattle.plain_run.proofs.TransactionLaws.{Fits, joined-counts}
use Rattle.plain_run.proofs.transaction.joined.Goals as goal

pub returns : goal.returns
returns c = λ events is.
    let fits : Fits c.args.first = record { samples = omega arith; failed = omega arith; elapsed = omega arith; bytes = omega arith } in
    rw (c.first_stamp.ensures, c.saturating_add.ensures, c.saturating_add-2.ensures, c.saturating_add-3.ensures, c.saturating_add-4.ensures)
    (joined-counts c.args.first c.args.second events fits is)
