use Rattle.std.proofs.Common.{sym, ap, ◌∙◌}
use Rattle.std.specs.Prelude.{Ok, Err}
use Rattle.thread_vars.specs.declared.error.VarError.TheVariants.{NoMemory}
use Rattle.var_functions.specs.declared.state.UserState.{UserState}
use Rattle.var_functions.proofs.LaterLaws.{later_same}
use Rattle.cursor_steps.specs.RunningChildren.{run_count}
use Rattle.cursor_steps.proofs.Steps.{goes-same, at-once, same-element, by-element}
use Rattle.choice_controllers.specs.RandomOrderController.{places, order_of, order_enters}
use Rattle.choice_controllers.proofs.ChosenLaws.{order-self, order-fns, order-entered}
use Rattle.choice_controllers.proofs.OrderLaws.{order-below, order-length}
use Rattle.choice_controllers.proofs.order_cursor.OrderCursorController.enter_among.Goals as goal

pub returns-in_default-clause-came : goal.returns-in_default-clause-came
returns-in_default-clause-came g c =
    by-element (g.O.Outside.account c.args._outside.now) (g.O.Outside.account c.args._outside.now) _ c.requires.there.0 c.args.self.now c.args.self.now c.args.state.now c.args.state.now
    (λ e. order_enters (run_count c.args._plan.now.elements e) c.args.self.now c.args.state.now) (Err NoMemory) (sym c.requires.there.1) (at-once _ _ _)

pub returns-in_default-clause-later : goal.returns-in_default-clause-later
returns-in_default-clause-later g c = later_same _

pub returns-clause-came : goal.returns-clause-came
returns-clause-came g c =
    let count = run_count c.args._plan.now.elements c.requires.there.0 in
    let all = c.in-Ok.ensures ∙ ap places (c.requires.counted c.requires.there.0 c.requires.there.1) in
    let s : UserState = record { vars = c.args.state.now.vars; fns = c.begin.new.fns } in
    by-element (g.O.Outside.account c.args._outside.now) (g.O.Outside.account c.args._outside.now) _ c.requires.there.0 c.args.self.now c.begin.new.self c.args.state.now s
    (λ e. order_enters (run_count c.args._plan.now.elements e) c.args.self.now c.args.state.now) (Ok tt) (sym c.requires.there.1)
    (goes-same _ _ _ (order-entered count c.args.self.now c.begin.new.self c.args.state.now c.begin.new.fns
    (order-self count c.in-Ok.places.items c.args.state.now.fns c.args.self.now c.begin.new.self all c.begin.ensures.order)
    (order-fns count c.in-Ok.places.items c.args.state.now.fns c.begin.new.fns all c.begin.ensures.fns)))

pub returns-clause-stands : goal.returns-clause-stands
returns-clause-stands g c = λ e there.
    let de = same-element c.args._plan.now.elements c.args.self.now.element _ e (sym c.requires.there.1) there in
    let all = c.in-Ok.ensures ∙ ap places ((c.requires.counted c.requires.there.0 c.requires.there.1) ∙ ap (run_count c.args._plan.now.elements) de) in
    order-length (run_count c.args._plan.now.elements e) (order_of c.begin.new.self) (rw all at c.begin.ensures.permutation)

pub returns-clause-entered : goal.returns-clause-entered
returns-clause-entered g c = λ e there.
    let count = run_count c.args._plan.now.elements e in
    let de = same-element c.args._plan.now.elements c.args.self.now.element _ e (sym c.requires.there.1) there in
    let all = c.in-Ok.ensures ∙ ap places ((c.requires.counted c.requires.there.0 c.requires.there.1) ∙ ap (run_count c.args._plan.now.elements) de) in
    let once = rw all at c.begin.ensures.permutation in
    record {
      order = order-self count c.in-Ok.places.items c.args.state.now.fns c.args.self.now c.begin.new.self all c.begin.ensures.order;
      draws = ap (λ fns. record { vars = c.args.state.now.vars; fns = fns })
          (order-fns count c.in-Ok.places.items c.args.state.now.fns c.begin.new.fns all c.begin.ensures.fns);
      once = once;
      child = order-below count (order_of c.begin.new.self) once;
      kept = tt;
      memory = tt;
    }
