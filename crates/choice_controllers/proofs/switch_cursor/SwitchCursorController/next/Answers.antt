use Rattle.var_functions.proofs.LaterLaws.{later_same}
use Rattle.cursor_steps.proofs.Steps.{goes-same}
use Rattle.choice_controllers.proofs.ChosenLaws.{switch-runs}
use Rattle.choice_controllers.proofs.switch_cursor.SwitchCursorController.next.Goals as goal

pub returns-clause-came : goal.returns-clause-came
returns-clause-came g c = goes-same _ _ _ (switch-runs c.args.self.now c.args._state.now c.take_turn.result c.take_turn.new.chosen c.take_turn.ensures.turn c.take_turn.ensures.taken)

pub returns-clause-later : goal.returns-clause-later
returns-clause-later g c = later_same _
