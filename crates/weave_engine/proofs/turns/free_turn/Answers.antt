use Rattle.std.proofs.Common.{inl, sym, ◌∙◌, refl, subst, arith}
use Rattle.phaser_core.specs.declared.view.Event.TheVariants.{LookStop}
use Rattle.phaser_core.specs.Step.{next_state}
use Rattle.weave_engine.specs.Seats.{CoreIs, MovesOne, Turned}
use Rattle.weave_engine.proofs.LoadLaws.{has_settled}
use Rattle.weave_engine.proofs.SeatLaws.{is_one, not_one}
use Rattle.weave_engine.proofs.TurnLaws.{empty_turned, stop_turned, step_turned}
use Rattle.weave_engine.proofs.LockedLaws.{left_moves}
use Rattle.weave_engine.proofs.turns.free_turn.Goals as goal

pub returns-then-seat-clause-turned : goal.returns-then-seat-clause-turned
returns-then-seat-clause-turned c = λ n s t there is core_is words room writes.
    empty_turned n s c.args.seat.now.worker.thread t there c.args.seat.now c.args.seat.now c.args.core.now c.args.core.now is core_is room writes c.args.locks.now.items words c.requires.owed c.if-seat.true refl refl

pub returns-then-seat-clause-thread : goal.returns-then-seat-clause-thread
returns-then-seat-clause-thread c = record { number = refl; plan = refl }

pub returns-then-seat-clause-moves : goal.returns-then-seat-clause-moves
returns-then-seat-clause-moves c = inl (refl, refl)

pub returns-then-seat-clause-lighter : goal.returns-then-seat-clause-lighter
returns-then-seat-clause-lighter c = has_settled c.args.locks.now.items c.args.seat.now c.if-seat.true c.requires.owed

pub returns-then-seat-clause-keeps : goal.returns-then-seat-clause-keeps
returns-then-seat-clause-keeps c = λ plan start options h. h

pub leave-requires : goal.leave-requires
leave-requires c = λ lock. (let h = c.requires.words.light lock in omega (arith, h))

pub leave-requires-else-seen-eq1 : goal.leave-requires-else-seen-eq1
leave-requires-else-seen-eq1 c = λ lock. (let h = c.requires.words.light lock in omega (arith, h))

pub returns-then-seen-eq1-clause-turned : goal.returns-then-seen-eq1-clause-turned
returns-then-seen-eq1-clause-turned c = λ n s t there is core_is words room writes.
    subst (Turned n c.args.seat.now.worker.thread s c.stop-open.new.self c.apply.new.core) (sym c.leave.ensures)
    (stop_turned n s c.args.seat.now.worker.thread t there c.args.seat.now c.stop-open.new.self c.args.core.now c.apply.new.core is core_is room writes c.args.locks.now.items words c.requires.owed c.if-seat.false
    (is_one _ (sym c.word-seen.ensures ∙ c.if-seen-eq1.true))
    (subst (λ k. CoreIs c.apply.new.core n (next_state n s.core (LookStop k))) is.number (c.in_ok-apply.ensures n s.core core_is))
    (c.stop-open.ensures.stopped t is) c.stop-open.ensures.out c.stop-open.result (c.stop-open.ensures.left t is))

pub returns-then-seen-eq1-clause-thread : goal.returns-then-seen-eq1-clause-thread
returns-then-seen-eq1-clause-thread c = c.stop-open.ensures.thread

pub returns-then-seen-eq1-clause-moves : goal.returns-then-seen-eq1-clause-moves
returns-then-seen-eq1-clause-moves c =
    subst (MovesOne c.args.seat.now.worker.section c.stop-open.new.self.worker.section c.args.locks.now.items) (sym c.leave.ensures)
    (left_moves c.args.seat.now c.stop-open.new.self c.stop-open.result c.args.locks.now.items c.stop-open.ensures.sections)

pub returns-then-seen-eq1-clause-lighter : goal.returns-then-seen-eq1-clause-lighter
returns-then-seen-eq1-clause-lighter c = inl c.stop-open.ensures.lighter

pub returns-then-seen-eq1-clause-keeps : goal.returns-then-seen-eq1-clause-keeps
returns-then-seen-eq1-clause-keeps c = c.stop-open.ensures.keeps

pub returns-in_ok-left-clause-turned : goal.returns-in_ok-left-clause-turned
returns-in_ok-left-clause-turned c = λ n s t there is core_is words room writes.
    subst (Turned n c.args.seat.now.worker.thread s c.step.new.self c.apply.new.core) (sym c.leave-else-seen-eq1.ensures)
    (step_turned n s c.args.seat.now.worker.thread t there c.args.seat.now c.step.new.self c.args.core.now c.apply.new.core is core_is room writes c.args.locks.now.items words c.requires.owed c.if-seat.false
    (not_one _ (λ e. c.if-seen-eq1.false (c.word-seen.ensures ∙ e)))
    (subst (λ k. CoreIs c.apply.new.core n (next_state n s.core (LookStop k))) is.number (c.in_ok-apply.ensures n s.core core_is))
    c.in_ok-left.ensures.thread.number c.in_ok-left.left (c.in_ok-left.ensures.made t is) c.in_ok-left.ensures.out)

pub returns-in_ok-left-clause-thread : goal.returns-in_ok-left-clause-thread
returns-in_ok-left-clause-thread c = c.in_ok-left.ensures.thread

pub returns-in_ok-left-clause-moves : goal.returns-in_ok-left-clause-moves
returns-in_ok-left-clause-moves c =
    subst (MovesOne c.args.seat.now.worker.section c.step.new.self.worker.section c.args.locks.now.items) (sym c.leave-else-seen-eq1.ensures)
    (left_moves c.args.seat.now c.step.new.self c.in_ok-left.left c.args.locks.now.items c.in_ok-left.ensures.sections)

pub returns-in_ok-left-clause-lighter : goal.returns-in_ok-left-clause-lighter
returns-in_ok-left-clause-lighter c = inl c.in_ok-left.ensures.lighter

pub returns-in_ok-left-clause-keeps : goal.returns-in_ok-left-clause-keeps
returns-in_ok-left-clause-keeps c = c.in_ok-left.ensures.keeps
