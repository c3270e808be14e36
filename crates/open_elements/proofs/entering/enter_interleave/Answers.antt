use Rattle.std.proofs.Common.{sym}
use Rattle.std.specs.Prelude.{Ok, None, slice_get}
use Rattle.element_tree.specs.declared.kinds.Kind.TheVariants as kinds
use Rattle.cursor_steps.specs.RunningChildren.{run_count}
use Rattle.choice_controllers.specs.declared.interleave_cursor.InterleaveCursor.{InterleaveCursor}
use Rattle.choice_controllers.specs.InterleaveController.{interleave_enters}
use Rattle.jm_meaning.specs.State.{at_places}
use Rattle.jm_meaning.specs.Children.{children_of}
use Rattle.open_elements.specs.Cursors.{interleave_left}
use Rattle.open_elements.proofs.PassLaws.{count-is}
use Rattle.open_elements.proofs.ChoiceLaws.{interleave-entered}
use Rattle.open_elements.proofs.FitLaws.{interleave_fits}
use Rattle.open_elements.proofs.CursorCalls.{came-begun}
use Rattle.open_elements.proofs.AtElement.{begins-at}
use Rattle.open_elements.proofs.CutLaws.{no_refusal}
use Rattle.open_elements.proofs.OpenLaws.{kind_is}
use Rattle.open_elements.proofs.entering.enter_interleave.Goals as goal

pub returns-in-Ok : goal.returns-in-Ok
returns-in-Ok g c =
    let r = c.requires.there in
    let first : InterleaveCursor = record { element = c.args.child; place = c.of.result; chosen = None } in
    record {
      came = λ e failure below round own there.
          let kind = kind_is c.args.plan.now.elements c.args.child r.0 e (kinds.Interleave) (sym r.1.there) there r.1.of_kind in
          rw kind (came-begun (g.O.Outside.account c.args.outside.now) (g.O.Outside.account c.enter_among.new._outside) (interleave_left below round (children_of c.args.plan.now.elements e)) (at_places own c.set.new.self) _ _ c.enter_among.new.self c.enter_among.new._state (Ok c.in-Ok.field-0)
          (begins-at _ (slice_get c.args.plan.now.elements c.args.child) e first c.args.state.now (λ e. interleave_enters (run_count c.args.plan.now.elements e) first c.args.state.now)
          (interleave_left below round (children_of c.args.plan.now.elements e)) (at_places own c.set.new.self) there
          (interleave-entered below round c.args.child (children_of c.args.plan.now.elements e) (run_count c.args.plan.now.elements e) first c.enter_among.new.self c.args.state.now (at_places own c.args.places.now) c.set.new.self
          (sym (count-is c.args.plan.now.elements e)) c.of.ensures (c.in-Ok.ensures.entered e there).0 c.set.ensures))
          c.in-Ok.ensures.came);
      fits = λ e there. interleave_fits c.args.plan.now.elements c.args.child r.0 e there c.enter_among.new.self r.1 c.in-Ok.ensures.same (c.in-Ok.ensures.entered e there).1;
      lock = λ e there. tt;
      stands = record { vars = c.in-Ok.ensures.vars; fns = c.in-Ok.ensures.later };
      places = tt;
    }

pub returns-in-Err : goal.returns-in-Err
returns-in-Err g c = absurd (no_refusal c.in-Err.error tt ((c.in-Err.ensures.entered c.requires.there.0 c.requires.there.1.there).3))
