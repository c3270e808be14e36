use Rattle.var_functions.proofs.LaterLaws.{later_same}
use Rattle.cursor_steps.proofs.Steps.{goes-same}
use Rattle.logic_controllers.proofs.Passes.{once-child, once-over, once-later}
use Rattle.logic_controllers.proofs.once_cursor.OnceCursorController.next.Goals as goal

pub returns-then-round-ne0-clause-came : goal.returns-then-round-ne0-clause-came
returns-then-round-ne0-clause-came g c = goes-same _ _ _ (once-later c.args.round c.args.self.now c.args._state.now c.if-round-ne0.true)

pub returns-then-round-ne0-clause-later : goal.returns-then-round-ne0-clause-later
returns-then-round-ne0-clause-later g c = later_same _

pub returns-in-Some-clause-came : goal.returns-in-Some-clause-came
returns-in-Some-clause-came g c = goes-same _ _ _ (once-child c.args.round c.args.self.now c.args._state.now _ c.next_child.new.self c.if-round-ne0.false c.in-Some.ensures)

pub returns-in-Some-clause-later : goal.returns-in-Some-clause-later
returns-in-Some-clause-later g c = later_same _

pub returns-in-None-clause-came : goal.returns-in-None-clause-came
returns-in-None-clause-came g c = goes-same _ _ _ (once-over c.args.round c.args.self.now c.args._state.now c.next_child.new.self c.if-round-ne0.false c.in-None.ensures)

pub returns-in-None-clause-later : goal.returns-in-None-clause-later
returns-in-None-clause-later g c = later_same _
