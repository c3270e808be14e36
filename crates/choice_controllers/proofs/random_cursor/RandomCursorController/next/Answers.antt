use Rattle.var_functions.proofs.LaterLaws.{later_same}
use Rattle.cursor_steps.proofs.Steps.{goes-same}
use Rattle.choice_controllers.proofs.ChosenLaws.{random-runs}
use Rattle.choice_controllers.proofs.random_cursor.RandomCursorController.next.Goals as goal

pub returns-clause-came : goal.returns-clause-came
returns-clause-came g c = goes-same _ _ _ (random-runs c.args.self.now c.args._state.now c.take_turn.result c.take_turn.new.chosen c.take_turn.ensures.turn c.take_turn.ensures.taken)

pub returns-clause-later : goal.returns-clause-later
returns-clause-later g c = later_same _
