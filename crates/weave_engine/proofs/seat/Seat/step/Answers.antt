use Rattle.std.proofs.Common.{None, refl}
use Rattle.thread_machine.specs.declared.step.Step.TheVariants.{Sampled, Null, Enter, Leave}
use Rattle.thread_machine.proofs.Ends.{thread_same}
use Rattle.weave_engine.specs.declared.seat.Owed.TheVariants as by
use Rattle.weave_engine.proofs.LoadLaws.{sample_lightens, null_lightens, enter_lightens, leave_lightens, ended_lightens}
use Rattle.weave_engine.proofs.SeatLaws.{step_sample, step_none, step_enter, step_leave, same_seat, sample_section, null_section, enter_section, ended_left, ended_sections, ended_thread, left_section}
use Rattle.weave_engine.proofs.WriteLaws.{sample_out, null_out, enter_out, leave_out, ended_out}
use Rattle.weave_engine.proofs.FollowLaws.{going_keeps, ended_keeps}
use Rattle.weave_engine.proofs.seat.Seat.step.Goals as goal

-- a sample

pub returns-in-Sampled-clause-made : goal.returns-in-Sampled-clause-made
returns-in-Sampled-clause-made c = λ t is. step_sample _ _ t is c.requires.owed refl c.in-Sampled.entry c.in-Sampled.ensures.steps refl refl refl

pub returns-in-Sampled-clause-sections : goal.returns-in-Sampled-clause-sections
returns-in-Sampled-clause-sections c = sample_section _ _ _ _ c.in-Sampled.entry c.in-Sampled.ensures.steps

pub returns-in-Sampled-clause-thread : goal.returns-in-Sampled-clause-thread
returns-in-Sampled-clause-thread c = same_seat c.args.self.now (record c.args.self.now { worker = c.step.new.self; outside = c.step.new.outside; owed = by.Record c.in-Sampled.entry 0 0 }) _ _ (Sampled c.in-Sampled.entry) c.in-Sampled.ensures.steps

pub returns-in-Sampled-clause-lighter : goal.returns-in-Sampled-clause-lighter
returns-in-Sampled-clause-lighter c = sample_lightens c.args.self.now (record c.args.self.now { worker = c.step.new.self; outside = c.step.new.outside; owed = by.Record c.in-Sampled.entry 0 0 }) c.requires.going c.requires.owed _ _ c.in-Sampled.entry c.in-Sampled.ensures.steps refl refl

pub returns-in-Sampled-clause-out : goal.returns-in-Sampled-clause-out
returns-in-Sampled-clause-out c = sample_out c.args.self.now (record c.args.self.now { worker = c.step.new.self; outside = c.step.new.outside; owed = by.Record c.in-Sampled.entry 0 0 }) c.requires.going c.requires.owed _ _ c.in-Sampled.entry c.in-Sampled.ensures.steps refl refl

pub returns-in-Sampled-clause-keeps : goal.returns-in-Sampled-clause-keeps
returns-in-Sampled-clause-keeps c = going_keeps c.args.self.now (record c.args.self.now { worker = c.step.new.self; outside = c.step.new.outside; owed = by.Record c.in-Sampled.entry 0 0 }) (thread_same _ _ _ _ (Sampled c.in-Sampled.entry) c.in-Sampled.ensures.steps).plan c.requires.going refl c.in-Sampled.ensures.stands

-- none

pub returns-in-Null-clause-made : goal.returns-in-Null-clause-made
returns-in-Null-clause-made c = λ t is. step_none _ _ t is c.requires.owed refl c.in-Null.ensures.steps refl refl refl

pub returns-in-Null-clause-sections : goal.returns-in-Null-clause-sections
returns-in-Null-clause-sections c = null_section _ _ _ _ c.in-Null.ensures.steps

pub returns-in-Null-clause-thread : goal.returns-in-Null-clause-thread
returns-in-Null-clause-thread c = same_seat c.args.self.now (record c.args.self.now { worker = c.step.new.self; outside = c.step.new.outside }) _ _ Null c.in-Null.ensures.steps

pub returns-in-Null-clause-lighter : goal.returns-in-Null-clause-lighter
returns-in-Null-clause-lighter c = null_lightens c.args.self.now (record c.args.self.now { worker = c.step.new.self; outside = c.step.new.outside }) c.requires.going c.requires.owed _ _ c.in-Null.ensures.steps refl refl

pub returns-in-Null-clause-out : goal.returns-in-Null-clause-out
returns-in-Null-clause-out c = null_out c.args.self.now (record c.args.self.now { worker = c.step.new.self; outside = c.step.new.outside }) c.requires.going c.requires.owed _ _ c.in-Null.ensures.steps refl refl

pub returns-in-Null-clause-keeps : goal.returns-in-Null-clause-keeps
returns-in-Null-clause-keeps c = going_keeps c.args.self.now (record c.args.self.now { worker = c.step.new.self; outside = c.step.new.outside }) (thread_same _ _ _ _ Null c.in-Null.ensures.steps).plan c.requires.going refl c.in-Null.ensures.stands

-- a section that is to be entered

pub returns-in-Enter-clause-made : goal.returns-in-Enter-clause-made
returns-in-Enter-clause-made c = λ t is. step_enter _ _ t is c.requires.owed refl c.in-Enter.lock c.in-Enter.ensures.steps c.requires.going refl refl refl

pub returns-in-Enter-clause-sections : goal.returns-in-Enter-clause-sections
returns-in-Enter-clause-sections c = enter_section _ _ _ _ c.in-Enter.lock c.in-Enter.ensures.steps

pub returns-in-Enter-clause-thread : goal.returns-in-Enter-clause-thread
returns-in-Enter-clause-thread c = same_seat c.args.self.now (record c.args.self.now { worker = c.step.new.self; outside = c.step.new.outside; owed = by.Enter c.in-Enter.lock }) _ _ (Enter c.in-Enter.lock) c.in-Enter.ensures.steps

pub returns-in-Enter-clause-lighter : goal.returns-in-Enter-clause-lighter
returns-in-Enter-clause-lighter c = enter_lightens c.args.self.now (record c.args.self.now { worker = c.step.new.self; outside = c.step.new.outside; owed = by.Enter c.in-Enter.lock }) c.requires.going c.requires.owed _ _ c.in-Enter.lock c.in-Enter.ensures.steps refl refl

pub returns-in-Enter-clause-out : goal.returns-in-Enter-clause-out
returns-in-Enter-clause-out c = enter_out c.args.self.now (record c.args.self.now { worker = c.step.new.self; outside = c.step.new.outside; owed = by.Enter c.in-Enter.lock }) c.requires.going c.requires.owed _ _ c.in-Enter.lock c.in-Enter.ensures.steps refl refl

pub returns-in-Enter-clause-keeps : goal.returns-in-Enter-clause-keeps
returns-in-Enter-clause-keeps c = going_keeps c.args.self.now (record c.args.self.now { worker = c.step.new.self; outside = c.step.new.outside; owed = by.Enter c.in-Enter.lock }) (thread_same _ _ _ _ (Enter c.in-Enter.lock) c.in-Enter.ensures.steps).plan c.requires.going refl c.in-Enter.ensures.stands

-- a section that is left

pub returns-in-Leave-clause-made : goal.returns-in-Leave-clause-made
returns-in-Leave-clause-made c = λ t is. step_leave _ _ t is c.requires.owed refl c.in-Leave.lock c.in-Leave.ensures.steps refl refl refl

pub returns-in-Leave-clause-sections : goal.returns-in-Leave-clause-sections
returns-in-Leave-clause-sections c = left_section _ _ _ _ c.in-Leave.lock c.in-Leave.ensures.steps

pub returns-in-Leave-clause-thread : goal.returns-in-Leave-clause-thread
returns-in-Leave-clause-thread c = same_seat c.args.self.now (record c.args.self.now { worker = c.step.new.self; outside = c.step.new.outside; section = None }) _ _ (Leave c.in-Leave.lock) c.in-Leave.ensures.steps

pub returns-in-Leave-clause-lighter : goal.returns-in-Leave-clause-lighter
returns-in-Leave-clause-lighter c = leave_lightens c.args.self.now (record c.args.self.now { worker = c.step.new.self; outside = c.step.new.outside; section = None }) c.requires.going c.requires.owed _ _ c.in-Leave.lock c.in-Leave.ensures.steps refl refl

pub returns-in-Leave-clause-out : goal.returns-in-Leave-clause-out
returns-in-Leave-clause-out c = leave_out c.args.self.now (record c.args.self.now { worker = c.step.new.self; outside = c.step.new.outside; section = None }) c.requires.going c.requires.owed _ _ c.in-Leave.lock c.in-Leave.ensures.steps refl refl

pub returns-in-Leave-clause-keeps : goal.returns-in-Leave-clause-keeps
returns-in-Leave-clause-keeps c = going_keeps c.args.self.now (record c.args.self.now { worker = c.step.new.self; outside = c.step.new.outside; section = None }) (thread_same _ _ _ _ (Leave c.in-Leave.lock) c.in-Leave.ensures.steps).plan c.requires.going refl c.in-Leave.ensures.stands

-- the end

pub returns-in-Ended-clause-made : goal.returns-in-Ended-clause-made
returns-in-Ended-clause-made c =
    let kept = c.end.ensures.kept in
    ended_left c.end.result c.args.self.now c.end.new.self c.in-Ended.end c.requires.owed kept.number kept.section (rw (kept.worker, kept.outside) c.in-Ended.ensures.steps) c.end.ensures.owed c.end.ensures.none c.end.ensures.memory

pub returns-in-Ended-clause-sections : goal.returns-in-Ended-clause-sections
returns-in-Ended-clause-sections c =
    let kept = c.end.ensures.kept in
    ended_sections c.end.result c.args.self.now c.end.new.self c.in-Ended.end (rw (kept.worker, kept.outside) c.in-Ended.ensures.steps) c.end.ensures.none c.end.ensures.memory

pub returns-in-Ended-clause-thread : goal.returns-in-Ended-clause-thread
returns-in-Ended-clause-thread c =
    let kept = c.end.ensures.kept in
    ended_thread c.end.result c.args.self.now c.end.new.self c.in-Ended.end (rw (kept.worker, kept.outside) c.in-Ended.ensures.steps)

pub returns-in-Ended-clause-lighter : goal.returns-in-Ended-clause-lighter
returns-in-Ended-clause-lighter c =
    let kept = c.end.ensures.kept in
    ended_lightens c.args.self.now c.end.new.self c.requires.going c.requires.owed c.end.result c.in-Ended.end (rw (kept.worker, kept.outside) c.in-Ended.ensures.steps) c.end.ensures.owed c.end.ensures.memory

pub returns-in-Ended-clause-out : goal.returns-in-Ended-clause-out
returns-in-Ended-clause-out c =
    let kept = c.end.ensures.kept in
    ended_out c.args.self.now c.end.new.self c.requires.going c.requires.owed c.end.result c.args.self.now.outside c.end.new.self.outside c.in-Ended.end (rw (kept.worker, kept.outside) c.in-Ended.ensures.steps) c.end.ensures.owed

pub returns-in-Ended-clause-keeps : goal.returns-in-Ended-clause-keeps
returns-in-Ended-clause-keeps c =
    let kept = c.end.ensures.kept in
    ended_keeps c.end.result c.args.self.now c.end.new.self c.in-Ended.end c.requires.is c.requires.owed c.requires.going
    (rw (kept.worker, kept.outside) c.in-Ended.ensures.steps) (rw (kept.worker, kept.outside) c.in-Ended.ensures.stands) c.end.ensures.owed c.end.ensures.memory
