use Rattle.logic_controllers.proofs.LoopLaws.{loop-went, loop-stays}
use Rattle.logic_controllers.proofs.loop_cursor.LoopCursor.advance.Goals as goal

pub returns-in-Ok-clause-came : goal.returns-in-Ok-clause-came
returns-in-Ok-clause-came g c =
    loop-went _ c.args.name.now c.args.self.now c.turn.new.self c.args.state.now c.open.new.vars c.open.new.self c.turn.result c.in-Ok.ensures.vars c.in-Ok.ensures.opened (c.turn.ensures.goes _)

pub returns-in-Err-clause-came : goal.returns-in-Err-clause-came
returns-in-Err-clause-came g c = loop-stays _ c.args.name.now c.args.self.now c.args.state.now c.open.new.vars c.open.new.self c.in-Err.error c.in-Err.ensures.vars c.in-Err.ensures.kept
