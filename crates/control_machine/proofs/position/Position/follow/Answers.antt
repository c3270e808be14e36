use Rattle.std.proofs.Common.{◌≡◌, ◌∷◌, ◌-◌, ◌<◌, sym, ap, refl, subst, ◌∙◌, arith}
use Rattle.std.specs.Prelude.{Some, slice_get}
use Rattle.std.proofs.lemmas.Result.{IfOk-weaker}
use Rattle.jm_base.specs.declared.types.End.TheVariants.{RoundLimit}
use Rattle.jm_meaning.specs.declared.signal.Signal.TheVariants.{Stop}
use Rattle.jm_meaning.specs.Meaning.{meaning}
use Rattle.open_elements.specs.Cursors.{round_in}
use Rattle.control_machine.specs.Left.{here_in, own_at, state_at, left_after, open_lock, depth_in}
use Rattle.control_machine.specs.Load.{load_of}
use Rattle.control_machine.specs.Turns.{IsOpened, TakesTurn, load_in, closing_of}
use Rattle.control_machine.specs.Answers.{with_frames}
use Rattle.control_machine.proofs.Coming.{turns_still, turns_as}
use Rattle.control_machine.proofs.Closed.{closed_lightens, closed_turn}
use Rattle.control_machine.proofs.Answered.{answered, is_over, no_round_left, round_taken, child_next, no_child}
use Rattle.control_machine.proofs.Standing.{fewer_group, fewer_open, round_open, child_nests, child_apart, few_left}
use Rattle.control_machine.proofs.Lightening.{over_lighter, round_lighter, child_lighter, none_lighter}
use Rattle.control_machine.proofs.Opening.{nests_at}
use Rattle.control_machine.proofs.Topmost.{top_is, stands_on, answered_by}
use Rattle.var_functions.proofs.LaterLaws.{later_same}
use Rattle.control_machine.proofs.position.Position.follow.Goals as goal

pub returns-in-Over-clause-turns : goal.returns-in-Over-clause-turns
returns-in-Over-clause-turns g c = λ f rest e h there.
    let p = c.shut.ensures f rest h.top in
    rw p.1 (turns_still (λ beside. ap (λ fs. answered c.args.plan.now (with_frames c.args.self.now fs) f e (state_at c.args.self.now beside c.args.state.now) c.args.turn) (sym p.0)
    ∙ is_over c.args.plan.now (record c.args.self.now { stack = c.shut.new.stack }) f e c.args.state.now (own_at c.args.self.now beside) there c.args.turn c.in-Over.is c.requires.normal c.args.self.now.rounds refl))

pub returns-in-Over-clause-goes : goal.returns-in-Over-clause-goes
returns-in-Over-clause-goes g c = λ f rest h.
    let p = c.shut.ensures f rest h.top in
    rw p.1 (subst (λ fs. TakesTurn c.args.plan.now c.args.self.now.rounds (open_lock (f ∷ rest)) (with_frames c.args.self.now fs) (closing_of c.args.self.now.signal f)) (sym p.0)
    (closed_turn c.args.plan.now _ (with_frames c.args.self.now rest) f h.open_ h.apart.alone h.stands))

pub returns-in-Over-clause-lighter : goal.returns-in-Over-clause-lighter
returns-in-Over-clause-lighter g c = λ f old rest h depth takes.
    let p = c.shut.ensures f rest h.top in
    rw p.1 (closed_lightens c.args.self.now.signal f _ _
    (subst (λ fs. load_of c.args.plan.now.elements (with_frames c.args.self.now fs) < load_in c.args.plan.now.elements c.args.self.now (old ∷ rest)) (sym p.0) (over_lighter c.args.plan.now.elements (with_frames c.args.self.now rest) old)))

pub returns-then-self-eq0-clause-turns : goal.returns-then-self-eq0-clause-turns
returns-then-self-eq0-clause-turns g c = λ f rest e h there.
    let p = c.shut-then-self-eq0.ensures f rest h.top in
    rw p.1 (turns_still (λ beside. ap (λ fs. answered c.args.plan.now (with_frames c.args.self.now fs) f e (state_at c.args.self.now beside c.args.state.now) c.args.turn) (sym p.0)
    ∙ no_round_left c.args.plan.now (record c.args.self.now { stack = c.shut-then-self-eq0.new.stack }) f e c.args.state.now (own_at c.args.self.now beside) there c.args.turn c.in-Round.is (omega (arith, c.if-self-eq0.true)) c.args.self.now.rounds refl))

pub returns-then-self-eq0-clause-goes : goal.returns-then-self-eq0-clause-goes
returns-then-self-eq0-clause-goes g c = λ f rest h.
    let p = c.shut-then-self-eq0.ensures f rest h.top in
    let s = h.stands in
    rw p.1 (subst (λ fs. TakesTurn c.args.plan.now c.args.self.now.rounds (open_lock (f ∷ rest)) (record (with_frames c.args.self.now fs) { signal = Stop RoundLimit }) (closing_of (Stop RoundLimit) f)) (sym p.0)
    (closed_turn c.args.plan.now _ (record (with_frames c.args.self.now rest) { signal = Stop RoundLimit }) f h.open_ h.apart.alone
    (record { group = s.group; open_ = s.open_; apart = s.apart; falls = s.falls; failure = s.failure; signal = tt; links = s.links })))

pub returns-then-self-eq0-clause-lighter : goal.returns-then-self-eq0-clause-lighter
returns-then-self-eq0-clause-lighter g c = λ f old rest h depth takes.
    let p = c.shut-then-self-eq0.ensures f rest h.top in
    rw p.1 (closed_lightens (Stop RoundLimit) f _ _
    (subst (λ fs. load_of c.args.plan.now.elements (with_frames c.args.self.now fs) < load_in c.args.plan.now.elements c.args.self.now (old ∷ rest)) (sym p.0) (over_lighter c.args.plan.now.elements (with_frames c.args.self.now rest) old)))

pub returns-else-self-eq0-clause-turns : goal.returns-else-self-eq0-clause-turns
returns-else-self-eq0-clause-turns g c = λ f rest e h there.
    turns_still (λ beside. round_taken c.args.plan.now (with_frames c.args.self.now rest) f e c.args.state.now (own_at c.args.self.now beside) there c.args.turn c.in-Round.is (record c.args.self.now { rounds = c.args.self.now.rounds - 1 }) (record { group = refl; failure = refl; signal = c.requires.normal }) h.top (c.args.self.now.rounds - 1) (omega (arith, c.if-self-eq0.false)))

pub returns-else-self-eq0-clause-goes : goal.returns-else-self-eq0-clause-goes
returns-else-self-eq0-clause-goes g c = λ f rest h.
    let s = h.stands in
    record {
      given = tt;
      stands = record {
        group = fewer_group c.args.plan.now.elements (c.args.self.now.rounds - 1) c.args.self.now.rounds c.args.self.now.group c.args.self.now.group refl (omega arith) s.group;
        open_ = rw h.top
            (round_open c.args.plan.now.elements c.args.self.now.rounds (c.args.self.now.rounds - 1) f c.args.turn c.in-Round.is c.if-self-eq0.false refl h.open_, fewer_open c.args.plan.now.elements (c.args.self.now.rounds - 1) c.args.self.now.rounds rest (omega arith) s.open_);
        apart = rw h.top (h.apart, s.apart);
        falls = rw h.top (h.falls, s.falls);
        failure = s.failure;
        signal = s.signal;
        links = s.links;
      };
      normal = tt;
      lock = ap open_lock h.top;
      rounds = omega arith;
      index = tt;
    }

pub returns-else-self-eq0-clause-lighter : goal.returns-else-self-eq0-clause-lighter
returns-else-self-eq0-clause-lighter g c = λ f old rest h depth takes.
    round_lighter c.args.plan.now.elements (with_frames c.args.self.now rest) (record c.args.self.now { rounds = c.args.self.now.rounds - 1 }) old f (few_left c.args.plan.now.elements _ c.args.self.now.rounds f h.open_) h.open_.depth h.top refl (omega (arith, c.if-self-eq0.false))

pub returns-then-self-eq0-clause-later : goal.returns-then-self-eq0-clause-later
returns-then-self-eq0-clause-later g c = later_same c.args.state.now.fns

pub returns-in-Over-clause-later : goal.returns-in-Over-clause-later
returns-in-Over-clause-later g c = later_same c.args.state.now.fns

pub returns-else-self-eq0-clause-later : goal.returns-else-self-eq0-clause-later
returns-else-self-eq0-clause-later g c = later_same c.args.state.now.fns

pub open-requires-clause-stands : goal.open-requires-clause-stands
open-requires-clause-stands g c = stands_on c.in-Child.place c.in-Child.is c.requires.answered.2

pub open-requires-clause-nests : goal.open-requires-clause-nests
open-requires-clause-nests g c =
    let h = answered_by c.in-Some.frame.now c.in-Some.ensures.0 c.in-Some.ensures.1 c.requires.answered.2 in
    let o = h.open_ in
    child_nests c.args.plan.now.elements c.in-Some.frame.now.depth c.in-Child.place c.in-Some-child_at.child o.element o.below (sym (c.in-Some-child_at.ensures c.args.plan.now.elements o.element h.stands.links o.there))

pub open-requires-clause-apart : goal.open-requires-clause-apart
open-requires-clause-apart g c =
    let h = answered_by c.in-Some.frame.now c.in-Some.ensures.0 c.in-Some.ensures.1 c.requires.answered.2 in
    let o = h.apart in
    rw h.top (child_apart c.args.plan.now.elements c.in-Some.frame.now.depth c.in-Child.place c.in-Some-child_at.child _ o.element o.below (sym (c.in-Some-child_at.ensures c.args.plan.now.elements o.element h.stands.links o.there)))

pub open-requires-clause-depth : goal.open-requires-clause-depth
open-requires-clause-depth g c =
    let top : depth_in c.args.self.now.stack.frames ≡ c.in-Some.frame.now.depth = ap depth_in c.in-Some.ensures.1 in
    omega (arith, top)

pub returns-in-Some-child_at-clause-turns : goal.returns-in-Some-child_at-clause-turns
returns-in-Some-child_at-clause-turns g c = λ f rest e h there.
    let is : f ≡ c.in-Some.frame.now = top_is f c.in-Some.frame.now rest c.in-Some.ensures.0 (sym h.top ∙ c.in-Some.ensures.1) in
    let at = sym (c.in-Some-child_at.ensures c.args.plan.now.elements e h.stands.links (subst (λ g. slice_get c.args.plan.now.elements g.element ≡ Some e) is there)) in
    turns_as (λ beside. child_next c.args.plan.now (with_frames c.args.self.now rest) f e c.args.state.now (own_at c.args.self.now beside) there c.args.turn c.in-Child.place c.in-Some-child_at.child c.round-round.result c.in-Child.is at
    (c.round-round.ensures ∙ ap (λ g. round_in g.round g.cursor) (sym is)) c.args.self.now (record { group = refl; failure = refl; signal = c.requires.normal }) h.top
    ∙ ap (λ g. left_after c.args.plan.now c.args.self.now (meaning (here_in c.args.plan.now c.args.self.now) g.depth c.in-Some-child_at.child c.round-round.result (state_at c.args.self.now beside c.args.state.now))) is)
    (sym (ap open_lock h.top)) c.open.ensures.turns

pub returns-in-Some-child_at-clause-lighter : goal.returns-in-Some-child_at-clause-lighter
returns-in-Some-child_at-clause-lighter g c = IfOk-weaker c.open.result _ _ (λ w opened f old rest h depth takes.
    let is : f ≡ c.in-Some.frame.now = top_is f c.in-Some.frame.now rest c.in-Some.ensures.0 (sym h.top ∙ c.in-Some.ensures.1) in
    let o = h.open_ in
    let at = sym (c.in-Some-child_at.ensures c.args.plan.now.elements o.element h.stands.links (subst (λ g. slice_get c.args.plan.now.elements g.element ≡ Some o.element) is o.there)) in
    child_lighter c.args.plan.now.elements (with_frames c.args.self.now rest) c.open.new.self old f c.args.turn c.in-Child.place c.args.self.now.stack.frames w c.in-Child.is
    (nests_at c.args.plan.now.elements f.depth c.in-Some-child_at.child (child_nests c.args.plan.now.elements f.depth c.in-Child.place c.in-Some-child_at.child o.element o.below at)).some
    depth takes h.top (subst (λ g. IsOpened c.args.plan.now.elements g.depth c.args.self.now.stack.frames c.open.new.self.stack.frames) (sym is) opened) c.open.ensures.rest.group c.open.ensures.rest.rounds) c.open.ensures.load

pub returns-in-Some-child_at-clause-goes : goal.returns-in-Some-child_at-clause-goes
returns-in-Some-child_at-clause-goes g c = λ f rest h. rw h.top at c.open.ensures.goes

pub returns-in-None-clause-turns : goal.returns-in-None-clause-turns
returns-in-None-clause-turns g c = λ f rest e h there.
    let is : f ≡ c.in-Some.frame.now = top_is f c.in-Some.frame.now rest c.in-Some.ensures.0 (sym h.top ∙ c.in-Some.ensures.1) in
    let at = sym (c.in-None.ensures c.args.plan.now.elements e h.stands.links (subst (λ g. slice_get c.args.plan.now.elements g.element ≡ Some e) is there)) in
    turns_still (λ beside. no_child c.args.plan.now (with_frames c.args.self.now rest) f e c.args.state.now (own_at c.args.self.now beside) there c.args.turn c.in-Child.place c.in-Child.is at c.args.self.now (record { group = refl; failure = refl; signal = c.requires.normal }) h.top c.args.self.now.rounds refl)

pub returns-in-None-clause-lighter : goal.returns-in-None-clause-lighter
returns-in-None-clause-lighter g c = λ f old rest h depth takes.
    none_lighter c.args.plan.now.elements (with_frames c.args.self.now rest) c.args.self.now old f c.args.turn c.in-Child.place c.in-Child.is depth takes h.top refl refl

pub returns-in-None-clause-goes : goal.returns-in-None-clause-goes
returns-in-None-clause-goes g c = λ f rest h. record {
  given = tt;
  stands = stands_on c.in-Child.place c.in-Child.is h;
  normal = tt;
  lock = ap open_lock h.top;
  rounds = omega arith;
  index = tt;
}

pub returns-in-None-clause-later : goal.returns-in-None-clause-later
returns-in-None-clause-later g c = later_same c.args.state.now.fns
