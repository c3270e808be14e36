use Rattle.std.proofs.Common.{sym}
use Rattle.var_functions.proofs.LaterLaws.{later_same}
use Rattle.cursor_steps.proofs.Steps.{goes-same}
use Rattle.logic_controllers.proofs.simple_cursor.SimpleCursorController.next.Goals as goal

pub returns-clause-came : goal.returns-clause-came
returns-clause-came g c = goes-same _ _ _ (sym (c.take_turn.ensures.goes _))

pub returns-clause-later : goal.returns-clause-later
returns-clause-later g c = later_same _
