use Rattle.std.proofs.Common.{◌≡◌, sym, ◌∙◌, subst}
use Rattle.std.specs.Prelude.{Some, slice_get}
use Rattle.jm_meaning.specs.State.{state_of}
use Rattle.jm_meaning.specs.Children.{children_of}
use Rattle.open_elements.specs.Cursors.{cursor_left, round_in}
use Rattle.open_elements.proofs.CursorCalls.{came-step}
use Rattle.open_elements.proofs.CutLaws.{on_refusal}
use Rattle.open_elements.proofs.cursor.next_as.Goals as goal

pub next-requires : goal.next-requires
next-requires g c =
    let r = c.requires.1 in
    let stands = c.laws.ensures.stands c.requires.0 c.args.plan.now.elements r.element c.args.cursor.now r.fits in
    c.laws.ensures.needs c.args.plan.now.elements r.element c.args.cursor.now (subst (λ n. slice_get c.args.plan.now.elements n ≡ Some r.element) (sym stands.0) r.there) stands.1
    (rw (c.laws.ensures.begun c.args.cursor.now) at r.begun)

pub returns-clause-answers : goal.returns-clause-answers
returns-clause-answers g c = record {
  came = λ e n below own there fits bound.
      let stands = c.laws.ensures.stands n c.args.plan.now.elements e c.args.cursor.now fits in
      came-step (g.O.Outside.account c.args.outside.now) (g.O.Outside.account c.next.new.outside) below (λ d. round_in c.args.round (g.C.Opens.opened d)) (children_of c.args.plan.now.elements e)
      (λ d. cursor_left below c.args.round (children_of c.args.plan.now.elements e) e (g.C.Opens.opened d)) own _ _ c.next.new.self c.next.new.state c.next.result
      (c.laws.ensures.goes below c.args.round n c.args.plan.now.elements e c.args.cursor.now (state_of c.args.state.now own)
      (subst (λ n. slice_get c.args.plan.now.elements n ≡ Some e) (sym stands.0) there) fits bound)
      c.next.ensures.came;
  begun = rw (c.laws.ensures.begun c.args.cursor.now, c.laws.ensures.begun c.next.new.self) c.next.ensures.begun;
  pass = rw (c.laws.ensures.left c.args.cursor.now, c.laws.ensures.left c.next.new.self) c.next.ensures.pass;
  shut = c.laws.ensures.shut c.next.new.self ∙ sym (c.laws.ensures.shut c.args.cursor.now);
  fits = λ e n there fits.
      let stands = c.laws.ensures.stands n c.args.plan.now.elements e c.args.cursor.now fits in
      c.laws.ensures.fits n c.args.plan.now.elements e c.next.new.self (c.next.ensures.same ∙ stands.0) stands.1 (c.next.ensures.stands _ stands.2);
  cut = λ e n there fits.
      let stands = c.laws.ensures.stands n c.args.plan.now.elements e c.args.cursor.now fits in
      on_refusal c.next.result (λ r. g.C.Controller.turned c.args.plan.now.elements c.args.cursor.now c.args.state.now r c.next.new.self c.next.new.state) _
      (λ error turned. c.laws.ensures.cut c.args.plan.now.elements e c.args.cursor.now c.next.new.self error c.args.state.now c.next.new.state
      (subst (λ n. slice_get c.args.plan.now.elements n ≡ Some e) (sym stands.0) there) stands.1 turned c.next.ensures.later)
      c.next.ensures.turned;
}
