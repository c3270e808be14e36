use Rattle.std.proofs.Common.{sym}
use Rattle.cursor_steps.proofs.Steps.{same-element, by-element}
use Rattle.choice_controllers.specs.SwitchController.{run_names, switch_enters_at}
use Rattle.choice_controllers.proofs.switch_cursor.SwitchCursorController.enter_among.Goals as goal

pub begin-requires : goal.begin-requires
begin-requires g c = c.requires.counted c.in-Some.element.now (sym c.in-Some.ensures)

pub returns-clause-came : goal.returns-clause-came
returns-clause-came g c =
    by-element (g.O.Outside.account c.args.outside.now) (g.O.Outside.account c.begin.new.outside) _ c.in-Some.element.now c.args.self.now c.begin.new.self c.args.state.now c.begin.new.state
    (λ e. switch_enters_at e.kind (run_names c.args.plan.now.elements e) c.args.self.now c.args.state.now) c.begin.result c.in-Some.ensures
    (rw c.in-Switch.is c.begin.ensures.came)

pub returns-clause-stands : goal.returns-clause-stands
returns-clause-stands g c = λ e there.
    let de = same-element c.args.plan.now.elements c.args.self.now.element _ e c.in-Some.ensures there in
    rw de at c.begin.ensures.child

pub returns-clause-entered : goal.returns-clause-entered
returns-clause-entered g c = λ e there.
    let de = same-element c.args.plan.now.elements c.args.self.now.element _ e c.in-Some.ensures there in
    rw de at c.begin.ensures.child
