use Rattle.std.proofs.Common.{sym, ◌∙◌}
use Rattle.var_functions.proofs.LaterLaws.{later_same}
use Rattle.cursor_steps.proofs.Steps.{goes-same}
use Rattle.choice_controllers.proofs.ChosenLaws.{order-child, order-over}
use Rattle.choice_controllers.proofs.order_cursor.OrderCursorController.next.Goals as goal

pub returns-in-Some-clause-came : goal.returns-in-Some-clause-came
returns-in-Some-clause-came g c =
    goes-same _ _ _ (order-child c.args.self.now c.args._state.now c.in-Some.place c.next_place.new.self (sym c.in-Some.is ∙ c.next_place.ensures.place) c.in-Some.ensures.moved)

pub returns-in-Some-clause-later : goal.returns-in-Some-clause-later
returns-in-Some-clause-later g c = later_same _

pub returns-in-None-clause-came : goal.returns-in-None-clause-came
returns-in-None-clause-came g c =
    goes-same _ _ _ (order-over c.args.self.now c.next_place.new.self c.args._state.now (sym c.in-None.is ∙ c.next_place.ensures.place) c.in-None.ensures.over)

pub returns-in-None-clause-later : goal.returns-in-None-clause-later
returns-in-None-clause-later g c = later_same _
