use Rattle.var_functions.proofs.LaterLaws.{later_same}
use Rattle.cursor_steps.proofs.Steps.{by-element}
use Rattle.logic_controllers.specs.LoopController.{loop_next}
use Rattle.logic_controllers.proofs.loop_cursor.LoopCursorController.next.Goals as goal

pub returns-clause-came : goal.returns-clause-came
returns-clause-came g c =
    by-element (g.O.Outside.account c.args.outside.now) (g.O.Outside.account c.advance.new.outside) _ c.in-Some.element.now c.args.self.now c.advance.new.self c.args.state.now c.advance.new.state
    (λ e. loop_next e.name c.args.self.now c.args.state.now) c.advance.result c.in-Some.ensures (rw c.bytes.ensures at c.advance.ensures.came)

pub returns-clause-later : goal.returns-clause-later
returns-clause-later g c = rw c.advance.ensures.fns (later_same _)
