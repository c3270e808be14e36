use Rattle.std.proofs.Common.{◌≡◌, ◌∷◌, reverse, sym, ap, ◌∙◌, subst, vec_len}
use Rattle.open_elements.specs.Answers.{StandsAt, CursorAnswers}
use Rattle.control_machine.proofs.Topmost.{moved_on, last_is, over_last}
use Rattle.control_machine.proofs.stack.Stack.answer.Goals as goal

pub returns-clause-answers : goal.returns-clause-answers
returns-clause-answers g c = λ f rest is.
    let items = c.self.inside.frames.items in
    let back : reverse items ≡ f ∷ rest = ap (λ o. o.frames) c.self.view_is ∙ is in
    let same : c.in-Some.frame.now ≡ f = c.in-Some.ensures.value ∙ last_is items f rest (vec_len c.self.inside.frames) back c.self.inside.frames.ok.0 c.in-Some.frame.now in
    record {
      cursor = c.next.new.self;
      stays = over_last items f rest (vec_len c.self.inside.frames) back c.self.inside.frames.ok.0 (moved_on c.in-Some.frame.now c.next.new.self) ∙ ap (λ h. moved_on h c.next.new.self ∷ rest) same;
      answers = subst (λ h. CursorAnswers c.args.plan.now h.round (g.O.Outside.account c.args.outside.now) h.cursor c.args.state.now (g.O.Outside.account c.next.new.outside) c.next.new.self c.next.new.state c.next.result) same c.next.ensures.answers;
    }

pub next-requires : goal.next-requires
next-requires g c =
    let r = c.requires in
    let back : reverse c.self.inside.frames.items ≡ r.0 ∷ r.1 = ap (λ o. o.frames) c.self.view_is ∙ r.2 in
    let same : c.in-Some.frame.now ≡ r.0 = c.in-Some.ensures.value ∙ last_is c.self.inside.frames.items r.0 r.1 (vec_len c.self.inside.frames) back c.self.inside.frames.ok.0 c.in-Some.frame.now in
    (r.0.element, subst (λ h. StandsAt c.args.plan.now r.0.element h.cursor) (sym same) r.3)
