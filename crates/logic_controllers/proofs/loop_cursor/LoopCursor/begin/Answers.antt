use Rattle.std.proofs.Common.{ap, ◌∙◌}
use Rattle.logic_controllers.specs.LoopController.{loops_of}
use Rattle.logic_controllers.proofs.LoopLaws.{loop-begun, loop-refused}
use Rattle.logic_controllers.proofs.loop_cursor.LoopCursor.begin.Goals as goal

pub returns-in-Ok-clause-came : goal.returns-in-Ok-clause-came
returns-in-Ok-clause-came g c =
    loop-begun _ _ c.args.loops.now c.args.children c.args.self.now c.args.state.now c.expand.new.state c.in-Ok.text _ _ c.in-Ok.ensures.came c.in-Ok.ensures.vars
    (c.loops_of-self.ensures ∙ ap loops_of c.bytes.ensures) c.before_first-self.ensures

pub returns-in-Err-clause-came : goal.returns-in-Err-clause-came
returns-in-Err-clause-came g c = loop-refused _ _ c.args.loops.now c.args.children c.args.self.now c.args.state.now c.expand.new.state c.in-Err.error c.in-Err.ensures.came c.in-Err.ensures.vars
