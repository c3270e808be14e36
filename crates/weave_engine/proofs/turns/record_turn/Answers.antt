use Rattle.std.proofs.Common.{◌+◌, drop, refl, subst}
use Rattle.weave_engine.specs.Steps.{record_steps}
use Rattle.weave_engine.specs.Seats.{IsNext}
use Rattle.weave_engine.proofs.SeatLaws.{next_is}
use Rattle.weave_engine.proofs.TurnLaws.{record_turned}
use Rattle.weave_engine.proofs.turns.record_turn.Goals as goal

pub returns-clause-turned : goal.returns-clause-turned
returns-clause-turned c = λ locks n s t there is core_is words room writes.
    let d = c.args.seat.now.worker.thread in
    let event = c.next_of-next.result.event in
    let rest = drop (c.args.done + 1) (record_steps d c.args.entry) in
    let next = subst (λ w. IsNext (drop c.args.done (record_steps w c.args.entry)) event (drop (c.args.done + 1) (record_steps w c.args.entry)) c.next_of-next.result.last) is.number c.next_of-next.ensures.next in
    record_turned n s d t there c.args.seat.now c.recorded.new.self c.args.core.now c.apply.new.core is core_is room writes locks words c.args.entry c.args.done c.args.interval c.interval_after.result event rest c.next_of-next.result.last
    c.requires.owed refl next (next_is (drop c.args.done (record_steps d c.args.entry)) rest event c.next_of-next.result.last next)
    (c.interval_after.ensures c.args.core.now.words c.word-active.ensures) (c.in_ok-apply.ensures n s.core core_is) (c.recorded.ensures.recorded t event is next) c.recorded.ensures.on

pub returns-clause-lighter : goal.returns-clause-lighter
returns-clause-lighter c = c.recorded.ensures.lighter

pub returns-clause-keeps : goal.returns-clause-keeps
returns-clause-keeps c = c.recorded.ensures.keeps

pub returns-clause-thread : goal.returns-clause-thread
returns-clause-thread c = c.recorded.ensures.thread

pub returns-clause-section : goal.returns-clause-section
returns-clause-section c = c.recorded.ensures.section
