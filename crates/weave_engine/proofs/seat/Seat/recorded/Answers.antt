use Rattle.std.proofs.Common.{◌+◌, drop, refl, sym, subst}
use Rattle.weave_engine.specs.Steps.{record_steps}
use Rattle.weave_engine.specs.Seats.{RecordsOn}
use Rattle.weave_engine.proofs.WriteLaws.{last_on, more_on}
use Rattle.weave_engine.specs.declared.seat.Owed.TheVariants as by
use Rattle.weave_engine.proofs.LoadLaws.{step_recorded, last_recorded, same_noted}
use Rattle.weave_engine.proofs.SeatLaws.{more_recorded, next_more}
use Rattle.weave_engine.proofs.FollowLaws.{noted_keeps}
use Rattle.weave_engine.proofs.seat.Seat.recorded.Goals as goal

pub returns-else-last-clause-recorded : goal.returns-else-last-clause-recorded
returns-else-last-clause-recorded c = λ t event is next.
    let steps = record_steps c.args.self.now.worker.thread c.args.entry in
    more_recorded c.args.self.now _ t is c.args.entry c.args.done c.requires.owed.0 c.args.interval c.requires.owed.1 refl refl refl refl (drop (c.args.done + 1) steps) refl
    (next_more (drop c.args.done steps) (drop (c.args.done + 1) steps) event c.args.last c.if-last.false next) refl refl

pub returns-then-last-clause-lighter : goal.returns-then-last-clause-lighter
returns-then-last-clause-lighter c = last_recorded c.args.self.now (record c.args.self.now { worker = c.noted.new.self; owed = by.Nothing }) c.args.entry c.args.done c.requires.owed.0 c.args.interval c.requires.is c.requires.owed.1 refl c.noted.ensures.item refl

pub returns-else-last-clause-lighter : goal.returns-else-last-clause-lighter
returns-else-last-clause-lighter c = step_recorded c.args.self.now (record c.args.self.now { owed = by.Record c.args.entry (c.args.done + 1) c.args.interval }) c.args.entry c.args.done c.requires.owed.0 c.args.interval c.requires.is c.requires.owed.1 refl refl refl

pub returns-then-last-clause-on : goal.returns-then-last-clause-on
returns-then-last-clause-on c =
    let new = record c.args.self.now { worker = c.noted.new.self; owed = by.Nothing } in
    subst (λ b. RecordsOn b c.args.entry (c.args.done + 1) c.args.interval c.args.self.now new) (sym c.if-last.true)
    (last_on c.args.self.now new c.args.entry c.args.done c.requires.owed.0 c.args.interval c.requires.is c.requires.owed.1 c.noted.ensures.item refl refl)

pub returns-else-last-clause-on : goal.returns-else-last-clause-on
returns-else-last-clause-on c =
    let new = record c.args.self.now { owed = by.Record c.args.entry (c.args.done + 1) c.args.interval } in
    subst (λ b. RecordsOn b c.args.entry (c.args.done + 1) c.args.interval c.args.self.now new) (sym c.if-last.false)
    (more_on c.args.self.now new c.args.entry c.args.done c.requires.owed.0 c.args.interval c.requires.is c.requires.owed.1 refl refl refl)

pub returns-then-last-clause-keeps : goal.returns-then-last-clause-keeps
returns-then-last-clause-keeps c = noted_keeps c.args.self.now (record c.args.self.now { worker = c.noted.new.self; owed = by.Nothing }) c.args.entry c.args.done c.requires.owed.0 c.requires.is c.requires.owed.1 refl refl c.args.interval c.noted.ensures.item c.noted.ensures.stands

pub returns-else-last-clause-keeps : goal.returns-else-last-clause-keeps
returns-else-last-clause-keeps c = λ plan start options h. h

pub returns-then-last-clause-thread : goal.returns-then-last-clause-thread
returns-then-last-clause-thread c =
    let h = same_noted c.args.self.now c.noted.new.self c.args.entry c.args.done c.requires.owed.0 c.args.interval c.requires.is c.requires.owed.1 c.noted.ensures.item in
    record { number = h.1; plan = h.2 }

pub returns-then-last-clause-section : goal.returns-then-last-clause-section
returns-then-last-clause-section c = (same_noted c.args.self.now c.noted.new.self c.args.entry c.args.done c.requires.owed.0 c.args.interval c.requires.is c.requires.owed.1 c.noted.ensures.item).0

pub returns-else-last-clause-thread : goal.returns-else-last-clause-thread
returns-else-last-clause-thread c = record { number = refl; plan = refl }
