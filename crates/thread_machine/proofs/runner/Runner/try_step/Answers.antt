use Rattle.std.proofs.Common.{◌≡◌, ◌∙◌, ap, sym, subst, refl, false, None, arith}
use Rattle.std.specs.Prelude.{IfSome}
use Rattle.jm_base.specs.declared.types.End.TheVariants.{ValueLimit}
use Rattle.thread_machine.specs.Inside.{IsLimit, standing_of}
use Rattle.thread_machine.specs.Stepped.{Gives}
use Rattle.thread_machine.specs.Ran.{is_end}
use Rattle.thread_machine.proofs.Going.{has_settled, moving_first, none_last, ends_on}
use Rattle.thread_machine.proofs.Steps.{rest_on, ends_last, begun_steps, past_the_limit, cut_there, cut_before, cut_at_once, cut_later, on_err, same_fewer}
use Rattle.thread_machine.proofs.runner.Runner.try_step.Goals as goal

pub returns-in-Some-clause-steps : goal.returns-in-Some-clause-steps
returns-in-Some-clause-steps g c =
    ends_last _ c.args.self.now (record c.args.self.now { trace = c.finish.new.self }) c.in-Some.end c.finish.result c.in-Some.is c.requires.on.limit c.finish.ensures.step refl c.finish.ensures.items

pub returns-in-Some-clause-on : goal.returns-in-Some-clause-on
returns-in-Some-clause-on g c =
    has_settled c.args.self.now (record c.args.self.now { trace = c.finish.new.self }) c.finish.result c.in-Some.end c.finish.ensures.step refl refl refl
    c.requires.owed c.requires.entering (subst (λ o. IfSome o (λ end. IsLimit end × (c.args.self.now.section ≡ None))) c.in-Some.is c.requires.on.limit).1

pub returns-in_err-make_room-clause-cut : goal.returns-in_err-make_room-clause-cut
returns-in_err-make_room-clause-cut g c = on_err c.from_residual.result _
    (cut_at_once _ c.args.self.now (record c.args.self.now { trace = c.make_room.new.self }) (record { plan = refl; thread = refl; pause = refl; owed = refl; entering = refl; section = refl; last = refl; fewer = omega arith }) c.in_err-make_room.ensures.same)

pub returns-in_err-make_room-clause-room : goal.returns-in_err-make_room-clause-room
returns-in_err-make_room-clause-room g c = on_err c.from_residual.result _ (let a = c.requires.on.room in let b = c.in_err-make_room.ensures.kept in omega (arith, a, b))

pub returns-in_err-pause_first-clause-cut : goal.returns-in_err-pause_first-clause-cut
returns-in_err-pause_first-clause-cut g c =
    let kept = c.in_err-pause_first.ensures.kept in
    on_err c.from_residual-in_err-pause_first.result _
    (cut_before _ _ c.args.self.now c.pause_first.new.self c.in_err-pause_first.ensures.still
    (record {
      plan = ap (λ n. n.plan.now) kept;
      thread = ap (λ n. n.thread) kept;
      pause = ap (λ n. n.pause) kept;
      owed = ap (λ n. n.owed) kept;
      entering = ap (λ n. n.entering) kept;
      section = ap (λ n. n.section) kept;
      last = ap (λ n. n.last) kept;
      fewer = same_fewer c.pause_first.new.self.units c.args.self.now.units (ap (λ n. n.units) kept);
    })
    (ap (λ n. n.trace.items) kept ∙ c.in_ok-make_room.ensures.same))

pub returns-in_err-pause_first-clause-room : goal.returns-in_err-pause_first-clause-room
returns-in_err-pause_first-clause-room g c = on_err c.from_residual-in_err-pause_first.result _ (let a = c.in_err-pause_first.ensures.room in omega (arith, a))

pub move_on-requires : goal.move_on-requires
move_on-requires g c =
    moving_first c.args.self.now c.pause_first.new.self c.in_ok-pause_first.ensures.begun.kept c.requires.on c.requires.owed c.requires.entering (none_last c.args.self.now.last c.in_default.not-Some) c.in_ok-pause_first.ensures.room

pub returns-in-Ok-clause-steps : goal.returns-in-Ok-clause-steps
returns-in-Ok-clause-steps g c =
    let moving = moving_first c.args.self.now c.pause_first.new.self c.in_ok-pause_first.ensures.begun.kept c.requires.on c.requires.owed c.requires.entering (none_last c.args.self.now.last c.in_default.not-Some) c.in_ok-pause_first.ensures.room in
    begun_steps _ _ _ c.args.self.now c.make_room.new.self c.pause_first.new.self c.move_on.new.self c.in-Ok.step c.in_ok-make_room.ensures.same c.in_ok-pause_first.ensures.begun
    (subst (λ k. Gives (g.O.Outside.account c.pause_first.new.outside) (g.O.Outside.account c.move_on.new.outside) k (standing_of c.pause_first.new.self false) (standing_of c.move_on.new.self (is_end c.in-Ok.step)) c.in-Ok.step)
    (sym (rest_on c.pause_first.new.self moving.pause moving.last)) c.in-Ok.ensures.gives)

pub end_by-requires : goal.end_by-requires
end_by-requires g c =
    let same = ap (λ t. t.room) c.in-Err-ValueLimit.ensures.refused.trace in
    let r = c.in_ok-pause_first.ensures.room in
    omega (arith, same, r)

pub returns-in-Err-ValueLimit-clause-steps : goal.returns-in-Err-ValueLimit-clause-steps
returns-in-Err-ValueLimit-clause-steps g c =
    let moving = moving_first c.args.self.now c.pause_first.new.self c.in_ok-pause_first.ensures.begun.kept c.requires.on c.requires.owed c.requires.entering (none_last c.args.self.now.last c.in_default.not-Some) c.in_ok-pause_first.ensures.room in
    begun_steps _ _ _ c.args.self.now c.make_room.new.self c.pause_first.new.self c.end_by.new.self c.end_by.result c.in_ok-make_room.ensures.same c.in_ok-pause_first.ensures.begun
    (past_the_limit _ _ c.pause_first.new.self c.move_on.new.self c.end_by.new.self c.in-Err-ValueLimit.field-0 c.end_by.result moving.pause moving.last moving.known c.in-Err-ValueLimit.field-0-is
    c.in-Err-ValueLimit.ensures.refused c.end_by.ensures.ends)

pub returns-in-Err-ValueLimit-clause-on : goal.returns-in-Err-ValueLimit-clause-on
returns-in-Err-ValueLimit-clause-on g c =
    let moving = moving_first c.args.self.now c.pause_first.new.self c.in_ok-pause_first.ensures.begun.kept c.requires.on c.requires.owed c.requires.entering (none_last c.args.self.now.last c.in_default.not-Some) c.in_ok-pause_first.ensures.room in
    let refused = c.in-Err-ValueLimit.ensures.refused in
    let same = ap (λ t. t.room) refused.trace in
    let r = c.in_ok-pause_first.ensures.room in
    ends_on c.move_on.new.self c.end_by.new.self ValueLimit c.end_by.result (tt {0}) (refused.same.owed ∙ moving.owed) (refused.same.entering ∙ moving.entering) (omega (arith, same, r))
    c.end_by.ensures.room c.end_by.ensures.ends

pub returns-in-Err-NoMemory-clause-cut : goal.returns-in-Err-NoMemory-clause-cut
returns-in-Err-NoMemory-clause-cut g c =
    let moving = moving_first c.args.self.now c.pause_first.new.self c.in_ok-pause_first.ensures.begun.kept c.requires.on c.requires.owed c.requires.entering (none_last c.args.self.now.last c.in_default.not-Some) c.in_ok-pause_first.ensures.room in
    cut_later _ _ _ c.args.self.now c.make_room.new.self c.pause_first.new.self c.move_on.new.self c.in_ok-make_room.ensures.same c.in_ok-pause_first.ensures.begun
    (cut_there _ _ c.pause_first.new.self c.move_on.new.self c.in-Err-NoMemory.field-0 moving.pause moving.last c.in-Err-NoMemory.field-0-is c.in-Err-NoMemory.ensures.refused)

pub returns-in-Err-NoMemory-clause-room : goal.returns-in-Err-NoMemory-clause-room
returns-in-Err-NoMemory-clause-room g c =
    let same = ap (λ t. t.room) c.in-Err-NoMemory.ensures.refused.trace in
    let r = c.in_ok-pause_first.ensures.room in
    omega (arith, same, r)
