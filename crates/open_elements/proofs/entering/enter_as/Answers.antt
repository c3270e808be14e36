use Rattle.std.proofs.Common.{◌≡◌, refl, sym, ap, ◌∙◌, subst}
use Rattle.std.specs.Prelude.{Ok, Err, Some, slice_get}
use Rattle.element_tree.specs.declared.kinds.Element.{Element}
use Rattle.jm_meaning.specs.State.{state_of, at_places}
use Rattle.open_elements.specs.declared.entering.Entered.TheVariants.{Open}
use Rattle.open_elements.specs.Closing.{KeepsLock}
use Rattle.open_elements.specs.Entering.{here_with, entered}
use Rattle.open_elements.proofs.CursorCalls.{came-begun, same_element}
use Rattle.open_elements.proofs.entering.enter_as.Goals as goal

pub enter_among-requires : goal.enter_among-requires
enter_among-requires g c =
    let r = c.requires.there in
    let is = ap g.C.Controller.place c.new-cursor.ensures ∙ c.laws.ensures.own_place c.args.child in
    record {
      there = (r.0, subst (λ n. slice_get c.args.plan.now.elements n ≡ Some r.0) (sym is) r.1, r.2);
      counted = λ e there. c.requires.counted e (subst (λ n. slice_get c.args.plan.now.elements n ≡ Some e) is there);
    }

pub returns-in-Ok : goal.returns-in-Ok
returns-in-Ok g c = λ places.
    let r = c.requires.there in
    let is = ap g.C.Controller.place c.new-cursor.ensures ∙ c.laws.ensures.own_place c.args.child in
    let serves = λ (e : Element) (there : slice_get c.args.plan.now.elements c.args.child ≡ Some e).
    subst (λ (x : Element). g.C.Controller.serves x.kind) (same_element c.args.plan.now.elements c.args.child r.0 e r.1 there) r.2 in
    let at = λ (e : Element) (there : slice_get c.args.plan.now.elements c.args.child ≡ Some e). subst (λ n. slice_get c.args.plan.now.elements n ≡ Some e) (sym is) there in
    record {
      came = λ e failure below round own there.
          rw c.open.ensures
          (came-begun (g.O.Outside.account c.args.outside.now) (g.O.Outside.account c.enter_among.new.outside) (λ d s. entered (here_with c.args.plan.now failure) below c.args.child round e s (Open (g.C.Opens.opened d))) (at_places own places) _ _
          c.enter_among.new.self c.enter_among.new.state (Ok c.in-Ok.field-0)
          (c.means.ensures c.args.plan.now failure below c.args.child e round c.new-cursor.result (state_of c.args.state.now (at_places own places)) (at e there) (serves e there))
          c.in-Ok.ensures.came);
      fits = λ e there.
          rw c.open.ensures (
            c.laws.ensures.fits c.args.child c.args.plan.now.elements e c.enter_among.new.self (c.in-Ok.ensures.same ∙ is) (serves e there) (c.in-Ok.ensures.stands e (at e there)),
            c.laws.ensures.begun c.enter_among.new.self ∙ c.in-Ok.ensures.before,
          );
      lock = λ e there. rw c.open.ensures (subst (λ s. KeepsLock c.args.plan.now.elements e.kind s) (sym (c.laws.ensures.shut c.enter_among.new.self)) tt);
      stands = record { vars = c.in-Ok.ensures.vars; fns = c.in-Ok.ensures.later };
      places = tt;
    }

pub returns-in-Err : goal.returns-in-Err
returns-in-Err g c = λ places.
    let r = c.requires.there in
    let is = ap g.C.Controller.place c.new-cursor.ensures ∙ c.laws.ensures.own_place c.args.child in
    record {
      came = λ e failure below round own there.
          let serves = subst (λ (x : Element). g.C.Controller.serves x.kind) (same_element c.args.plan.now.elements c.args.child r.0 e r.1 there) r.2 in
          came-begun (g.O.Outside.account c.args.outside.now) (g.O.Outside.account c.enter_among.new.outside) (λ d s. entered (here_with c.args.plan.now failure) below c.args.child round e s (Open (g.C.Opens.opened d))) (at_places own places) _ _
          c.enter_among.new.self c.enter_among.new.state (Err c.in-Err.error)
          (c.means.ensures c.args.plan.now failure below c.args.child e round c.new-cursor.result (state_of c.args.state.now (at_places own places)) (subst (λ n. slice_get c.args.plan.now.elements n ≡ Some e) (sym is) there) serves)
          c.in-Err.ensures.came;
      fits = tt;
      lock = tt;
      stands = record { vars = c.in-Err.ensures.vars; fns = c.in-Err.ensures.later };
      places = refl;
    }
