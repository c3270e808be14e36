use Rattle.var_functions.proofs.LaterLaws.{later_same}
use Rattle.cursor_steps.proofs.Steps.{goes-same}
use Rattle.logic_controllers.proofs.IfLaws.{if-unasked, if-asked, if-refused}
use Rattle.logic_controllers.proofs.if_cursor.IfCursor.begin.Goals as goal

pub returns-then-all-clause-came : goal.returns-then-all-clause-came
returns-then-all-clause-came g c = goes-same _ _ _ (if-unasked c.args.all c.args.condition.now c.args.children c.args.self.now c.args.state.now _ c.if-all.true c.over-self.ensures)

pub returns-then-all-clause-later : goal.returns-then-all-clause-later
returns-then-all-clause-later g c = later_same _

pub returns-in-Ok-clause-came : goal.returns-in-Ok-clause-came
returns-in-Ok-clause-came g c =
    if-asked _ _ c.args.all c.args.condition.now c.args.children _ c.args.self.now c.args.state.now c.expand.new.state c.in-Ok.text _ c.if-all.false c.in-Ok.ensures.came c.in-Ok.ensures.vars
    c.over-self-in-Ok.ensures (rw (c.is_true.ensures, c.bytes.ensures) at c.children_where.ensures)

pub returns-in-Err-clause-came : goal.returns-in-Err-clause-came
returns-in-Err-clause-came g c =
    if-refused _ _ c.args.all c.args.condition.now c.args.children c.args.self.now c.args.state.now c.expand.new.state c.in-Err.error c.if-all.false c.in-Err.ensures.came c.in-Err.ensures.vars
