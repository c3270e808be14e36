use Rattle.std.proofs.Common.{sym, ap, ◌∙◌}
use Rattle.weave_engine.specs.Seats.{is_free_seat}
use Rattle.weave_engine.proofs.RowLaws.{found_there, missed_there}
use Rattle.weave_engine.proofs.rows.is_free.Goals as goal

pub returns-in-Some : goal.returns-in-Some
returns-in-Some c = c.owes_nothing.ensures
    ∙ sym (ap is_free_seat (found_there c.deref.result.now c.args.seats.now.items c.from.result c.args.thread c.in-Some.seat.now c.deref.ensures.value c.from.ensures c.in-Some.ensures.lookup.3.0 c.in-Some.ensures.lookup.1))

pub returns-in-None : goal.returns-in-None
returns-in-None c =
    ap is_free_seat (sym (missed_there c.deref.result.now c.args.seats.now.items c.from.result c.args.thread c.deref.ensures.value c.from.ensures c.in-None.ensures.lookup.3))
