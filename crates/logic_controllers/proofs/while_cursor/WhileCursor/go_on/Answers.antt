use Rattle.std.proofs.Common.{sym, ◌∙◌}
use Rattle.var_functions.proofs.LaterLaws.{later_same}
use Rattle.cursor_steps.proofs.Steps.{goes-same}
use Rattle.logic_controllers.proofs.WhileLaws.{while-child, while-over, while-round, while-cut}
use Rattle.logic_controllers.proofs.while_cursor.WhileCursor.go_on.Goals as goal

pub returns-in-Some-clause-came : goal.returns-in-Some-clause-came
returns-in-Some-clause-came g c = goes-same _ _ _ (while-child c.args.condition.now c.args.self.now c.args.state.now _ c.next_child.new.self c.in-Some.ensures)

pub returns-in-Some-clause-later : goal.returns-in-Some-clause-later
returns-in-Some-clause-later g c = later_same _

pub returns-then-not-goes_on-clause-came : goal.returns-then-not-goes_on-clause-came
returns-then-not-goes_on-clause-came g c =
    while-over _ _ c.args.condition.now c.args.self.now c.args.state.now c.expand.new.state c.in-Ok.text c.next_child.new.self c.in_default.ensures c.in-Ok.ensures.came c.in-Ok.ensures.vars
    (let on = rw (c.bytes.ensures, c.last_ok.ensures) at c.goes_on.ensures in sym on ∙ c.if-not-goes_on.true)

pub returns-else-not-goes_on-clause-came : goal.returns-else-not-goes_on-clause-came
returns-else-not-goes_on-clause-came g c =
    while-round _ _ c.args.condition.now c.args.self.now c.args.state.now c.expand.new.state c.in-Ok.text c.next_child.new.self c.begin.new.self c.in_default.ensures c.in-Ok.ensures.came c.in-Ok.ensures.vars
    (let on = rw (c.bytes.ensures, c.last_ok.ensures) at c.goes_on.ensures in sym on ∙ c.if-not-goes_on.false) c.begin.ensures

pub returns-in-Err-clause-came : goal.returns-in-Err-clause-came
returns-in-Err-clause-came g c =
    while-cut _ _ c.args.condition.now c.args.self.now c.args.state.now c.expand.new.state c.in-Err.error c.next_child.new.self c.in_default.ensures c.in-Err.ensures.came c.in-Err.ensures.vars
