use Rattle.var_functions.proofs.LaterLaws.{later_same}
use Rattle.logic_controllers.proofs.WhileLaws.{while-stays}
use Rattle.logic_controllers.proofs.while_cursor.WhileCursor.advance.Goals as goal

pub returns-in-Err-clause-came : goal.returns-in-Err-clause-came
returns-in-Err-clause-came g c = while-stays _ c.args.name.now c.args.condition.now c.args.self.now c.args.state.now c.open.new.vars c.open.new.self c.in-Err.error c.in-Err.ensures.vars c.in-Err.ensures.kept

pub returns-in-Err-clause-later : goal.returns-in-Err-clause-later
returns-in-Err-clause-later g c = later_same _
