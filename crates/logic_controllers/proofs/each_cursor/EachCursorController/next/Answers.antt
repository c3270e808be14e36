use Rattle.var_functions.proofs.LaterLaws.{later_same}
use Rattle.cursor_steps.proofs.Steps.{by-element}
use Rattle.logic_controllers.specs.ForEachController.{each_next_at}
use Rattle.logic_controllers.proofs.each_cursor.EachCursorController.next.Goals as goal

pub returns-clause-came : goal.returns-clause-came
returns-clause-came g c =
    by-element (g.O.Outside.account c.args.outside.now) (g.O.Outside.account c.advance.new.outside) _ c.in-Some.element.now c.args.self.now c.advance.new.self c.args.state.now c.advance.new.state
    (λ e. each_next_at e.kind e.name c.args.self.now c.args.state.now) c.advance.result c.in-Some.ensures (rw c.in-ForEach.is (rw c.bytes.ensures at c.advance.ensures.came))

pub returns-clause-later : goal.returns-clause-later
returns-clause-later g c = rw c.advance.ensures.fns (later_same _)
