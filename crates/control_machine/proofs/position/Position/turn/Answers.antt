use Rattle.std.proofs.Common.{◌≡◌, List, ◌∷◌, refl, sym, ap, subst, ◌∙◌}
use Rattle.std.specs.Prelude.{IfOk}
use Rattle.std.proofs.lemmas.Result.{IfOk-weaker}
use Rattle.jm_base.specs.Run.{over}
use Rattle.control_machine.specs.declared.stack.Frame.{Frame}
use Rattle.jm_meaning.specs.State.{normal}
use Rattle.jm_meaning.specs.Meaning.{meaning}
use Rattle.control_machine.specs.Left.{here_in, left_in, own_at, state_at, open_lock}
use Rattle.control_machine.specs.Load.{load_of}
use Rattle.control_machine.specs.Turns.{Lightens, TakesTurn, load_in}
use Rattle.control_machine.specs.Answers.{with_frames}
use Rattle.control_machine.proofs.StackLaws.{framed_goes, framed_refused}
use Rattle.control_machine.proofs.Topmost.{stands_at, has_answered, moved_on}
use Rattle.control_machine.proofs.Coming.{turns_still, turns_as, turns_behind, turns_inside}
use Rattle.control_machine.proofs.Following.{left_normal}
use Rattle.var_functions.proofs.LaterLaws.{later_same, later_then}
use Rattle.control_machine.proofs.Leaving.{not_normal}
use Rattle.control_machine.proofs.position.Position.turn.Goals as goal

pub answer-requires : goal.answer-requires
answer-requires g c =
    let t : (f : Frame) × (rest : List Frame) × (c.args.self.now.stack.frames ≡ f ∷ rest) = (_, c.in-Some.ensures.0, c.in-Some.ensures.1) in
    (t.0, t.1, t.2, stands_at c.args.self.now.rounds t.0 (rw t.2 at c.requires.open_).0)

pub follow-requires-clause-answered : goal.follow-requires-clause-answered
follow-requires-clause-answered g c =
    let t : (f : Frame) × (rest : List Frame) × (c.args.self.now.stack.frames ≡ f ∷ rest) = (_, c.in-Some.ensures.0, c.in-Some.ensures.1) in
    let a = c.in-Ok.ensures.answers t.0 t.1 t.2 in
    (moved_on t.0 a.cursor, t.1, has_answered c.args.plan.now c.args.self.now c.answer.new.self t.0 t.1 a.cursor c.in-Ok.turn t.2 c.requires a.stays a.answers.begun a.answers.shut a.answers.fits)

pub returns-in-Ok : goal.returns-in-Ok
returns-in-Ok g c =
    let t : (f : Frame) × (rest : List Frame) × (c.args.self.now.stack.frames ≡ f ∷ rest) = (_, c.in-Some.ensures.0, c.in-Some.ensures.1) in
    let f = t.0 in
    let rest = t.1 in
    let a = c.in-Ok.ensures.answers f rest t.2 in
    let o = (rw t.2 at c.requires.open_).0 in
    let answered = has_answered c.args.plan.now c.args.self.now c.answer.new.self f rest a.cursor c.in-Ok.turn t.2 c.requires a.stays a.answers.begun a.answers.shut a.answers.fits in
    record {
      turns = turns_as (λ beside. left_normal c.args.plan.now c.args.self.now (state_at c.args.self.now beside c.args.state.now) c.in-Normal.is
          ∙ ap (λ fs. left_in (here_in c.args.plan.now c.args.self.now) c.args.self.now.group fs (over (normal (state_at c.args.self.now beside c.args.state.now)))) t.2)
          (ap open_lock t.2)
          (turns_behind (λ beside. framed_goes (here_in c.args.plan.now c.args.self.now) c.args.self.now.group rest f o.element (state_at c.args.self.now beside c.args.state.now) _ _ _ o.there
          (a.answers.came o.element f.element (meaning (here_in c.args.plan.now c.args.self.now) f.depth) (own_at c.args.self.now beside) o.there o.fits o.bound))
          (rw a.answers.shut at (c.follow.ensures.turns (moved_on f a.cursor) rest o.element answered o.there)));
      lighter = IfOk-weaker c.follow.result _ _ (λ w l. subst (λ fs. Lightens w (load_in c.args.plan.now.elements c.args.self.now fs) (load_of c.args.plan.now.elements c.follow.new.self)) (sym t.2)
          (l (moved_on f a.cursor) f rest answered refl a.answers.pass)) c.follow.ensures.lighter;
      goes = subst (λ o. IfOk c.follow.result (TakesTurn c.args.plan.now c.args.self.now.rounds o c.follow.new.self)) (sym (ap open_lock t.2))
          (rw a.answers.shut at (c.follow.ensures.goes (moved_on f a.cursor) rest answered));
      thread = c.follow.ensures.thread;
      later = later_then c.args.state.now.fns c.answer.new.state.fns c.follow.new.state.fns c.in-Ok.ensures.later c.follow.ensures.later;
    }

pub returns-in-Err : goal.returns-in-Err
returns-in-Err g c =
    let t : (f : Frame) × (rest : List Frame) × (c.args.self.now.stack.frames ≡ f ∷ rest) = (_, c.in-Some.ensures.0, c.in-Some.ensures.1) in
    let f = t.0 in
    let rest = t.1 in
    let a = c.in-Err.ensures.answers f rest t.2 in
    let o = (rw t.2 at c.requires.open_).0 in
    let inside = turns_inside (with_frames c.args.self.now rest) f o.element c.args.state.now o.there c.in-Normal.is (a.answers.cut o.element f.element o.there o.fits)
    (λ beside. framed_refused (here_in c.args.plan.now c.args.self.now) c.args.self.now.group rest f o.element (state_at c.args.self.now beside c.args.state.now) (state_at c.args.self.now beside c.answer.new.state) _ _ c.in-Err.error o.there (rw t.2 at c.requires.apart)
    (a.answers.came o.element f.element (meaning (here_in c.args.plan.now c.args.self.now) f.depth) (own_at c.args.self.now beside) o.there o.fits o.bound)) in
    record {
      turns = turns_as (λ beside. left_normal c.args.plan.now c.args.self.now (state_at c.args.self.now beside c.args.state.now) c.in-Normal.is
          ∙ ap (λ fs. left_in (here_in c.args.plan.now c.args.self.now) c.args.self.now.group fs (over (normal (state_at c.args.self.now beside c.args.state.now)))) t.2)
          (ap open_lock t.2) (record { came = inside.came; cut = inside.cut });
      lighter = tt;
      goes = tt;
      thread = (refl, refl);
      later = c.in-Err.ensures.later;
    }

pub returns-in-NextLoop : goal.returns-in-NextLoop
returns-in-NextLoop g c =
    let left = c.leave_one.ensures.leaves c.args.plan.now c.requires (not_normal c.args.self.now.signal c.in-NextLoop.is) in
    record {
      turns = turns_still (λ beside. left.same beside c.args.state.now);
      lighter = c.leave_one.ensures.lighter c.args.plan.now.elements;
      goes = left.goes;
      thread = c.leave_one.ensures.thread;
      later = later_same c.args.state.now.fns;
    }
