use Rattle.std.proofs.Common.{sym, ap, ◌∙◌}
use Rattle.weave_engine.specs.Seats.{is_blocked_seat}
use Rattle.weave_engine.proofs.RowLaws.{found_there, missed_there}
use Rattle.weave_engine.proofs.rows.is_busy.Goals as goal

pub returns-in-Some : goal.returns-in-Some
returns-in-Some c = c.is_blocked.ensures
    ∙ sym (ap (is_blocked_seat c.args.locks.now.items) (found_there c.deref.result.now c.args.seats.now.items c.from.result c.args.thread c.in-Some.seat.now c.deref.ensures.value c.from.ensures c.in-Some.ensures.lookup.3.0 c.in-Some.ensures.lookup.1))

pub returns-in-None : goal.returns-in-None
returns-in-None c =
    ap (is_blocked_seat c.args.locks.now.items) (sym (missed_there c.deref.result.now c.args.seats.now.items c.from.result c.args.thread c.deref.ensures.value c.from.ensures c.in-None.ensures.lookup.3))
