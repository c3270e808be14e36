use Rattle.std.proofs.Common.{◌≡◌, List, [], ◌∷◌, suc, length, refl, ap, ◌∙◌}
use Rattle.weave_engine.specs.declared.seat.Seat.{Seat}
use Rattle.weave_engine.specs.Seats.{traces_in}
use Rattle.weave_engine.proofs.weaving.weave.Goals as goal

traces_long : (xs : List Seat) → length (traces_in xs) ≡ length xs
traces_long [] = refl
traces_long (x ∷ xs) = ap suc (traces_long xs)

pub traces_of-requires-clause-plans : goal.traces_of-requires-clause-plans
traces_of-requires-clause-plans c = c.in_ok-finished.ensures.plans

pub traces_of-requires-clause-closed : goal.traces_of-requires-clause-closed
traces_of-requires-clause-closed c = c.in_ok-finished.ensures.closed

pub returns-clause-woven : goal.returns-clause-woven
returns-clause-woven c = rw (c.in_ok-traces.ensures.traces, c.of.ensures) c.in_ok-finished.ensures.woven

pub returns-clause-follows : goal.returns-clause-follows
returns-clause-follows c = rw c.in_ok-traces.ensures.traces c.in_ok-finished.ensures.follows

pub returns-clause-partition : goal.returns-clause-partition
returns-clause-partition c = rw (c.in_ok-traces.ensures.traces, c.of.ensures) c.in_ok-finished.ensures.partition

pub returns-clause-threads : goal.returns-clause-threads
returns-clause-threads c = ap length c.in_ok-traces.ensures.traces ∙ traces_long c.in_ok-finished.finished.seats.items ∙ c.in_ok-finished.ensures.count

pub returns-clause-keep : goal.returns-clause-keep
returns-clause-keep c = rw c.in_ok-traces.ensures.traces c.in_ok-finished.ensures.keep
