use Rattle.std.proofs.Common.{ap, sym, ◌∙◌}
use Rattle.var_functions.proofs.LaterLaws.{later_same}
use Rattle.logic_controllers.specs.IfController.{is_true}
use Rattle.cursor_steps.proofs.Steps.{goes-same}
use Rattle.logic_controllers.proofs.IfLaws.{if-over, if-plain, if-child, if-ends, if-cut}
use Rattle.logic_controllers.proofs.if_cursor.IfCursor.advance.Goals as goal

pub returns-then-self-clause-came : goal.returns-then-self-clause-came
returns-then-self-clause-came g c = goes-same _ _ _ (if-over c.args.all c.args.condition.now c.args.self.now c.args.state.now c.if-self.true)

pub returns-then-self-clause-later : goal.returns-then-self-clause-later
returns-then-self-clause-later g c = later_same _

pub returns-then-not-all-clause-came : goal.returns-then-not-all-clause-came
returns-then-not-all-clause-came g c =
    goes-same _ _ _ (if-plain c.args.all c.args.condition.now c.args.self.now c.args.state.now c.take_child.result c.take_child.new.self c.if-self.false c.if-not-all.true c.take_child.ensures.place c.take_child.ensures.moved)

pub returns-then-not-all-clause-later : goal.returns-then-not-all-clause-later
returns-then-not-all-clause-later g c = later_same _

pub returns-then-not-is_true-clause-came : goal.returns-then-not-is_true-clause-came
returns-then-not-is_true-clause-came g c =
    if-ends _ _ c.args.all c.args.condition.now c.args.self.now c.args.state.now c.expand.new.state c.in-Ok.text c.if-self.false c.if-not-all.false c.in-Ok.ensures.came c.in-Ok.ensures.vars
    (sym (c.is_true.ensures ∙ ap is_true c.bytes.ensures) ∙ c.if-not-is_true.true)

pub returns-else-not-is_true-clause-came : goal.returns-else-not-is_true-clause-came
returns-else-not-is_true-clause-came g c =
    if-child _ _ c.args.all c.args.condition.now c.args.self.now c.args.state.now c.expand.new.state c.in-Ok.text c.take_child-in-Ok.result c.take_child-in-Ok.new.self c.if-self.false c.if-not-all.false c.in-Ok.ensures.came c.in-Ok.ensures.vars
    (sym (c.is_true.ensures ∙ ap is_true c.bytes.ensures) ∙ c.if-not-is_true.false) c.take_child-in-Ok.ensures.place c.take_child-in-Ok.ensures.moved

pub returns-in-Err-clause-came : goal.returns-in-Err-clause-came
returns-in-Err-clause-came g c =
    if-cut _ _ c.args.all c.args.condition.now c.args.self.now c.args.state.now c.expand.new.state c.in-Err.error c.if-self.false c.if-not-all.false c.in-Err.ensures.came c.in-Err.ensures.vars
