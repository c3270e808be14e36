use Rattle.std.proofs.Common.{sym}
use Rattle.cursor_steps.specs.RunningChildren.{run_count}
use Rattle.cursor_steps.proofs.Steps.{by-element}
use Rattle.logic_controllers.specs.LoopController.{loop_enters_at}
use Rattle.logic_controllers.proofs.loop_cursor.LoopCursorController.enter_among.Goals as goal

pub returns-clause-came : goal.returns-clause-came
returns-clause-came g c =
    by-element (g.O.Outside.account c.args.outside.now) (g.O.Outside.account c.begin.new.outside) _ c.in-Some.element.now c.args.self.now c.begin.new.self c.args.state.now c.begin.new.state
    (λ e. loop_enters_at e.kind (run_count c.args.plan.now.elements e) c.args.self.now c.args.state.now) c.begin.result c.in-Some.ensures
    (rw c.in-Loop.is (rw (c.requires.counted c.in-Some.element.now (sym c.in-Some.ensures)) at c.begin.ensures.came))
