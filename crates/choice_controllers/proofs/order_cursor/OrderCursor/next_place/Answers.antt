use Rattle.choice_controllers.specs.RandomOrderController.{order_of}
use Rattle.choice_controllers.proofs.OrderLaws.{get-below, fewer-left}
use Rattle.choice_controllers.proofs.order_cursor.OrderCursor.next_place.Goals as goal
use Rattle.std.proofs.Common.{sym, ◌∙◌}

pub returns-clause-child : goal.returns-clause-child
returns-clause-child c = λ children all. get-below children c.args.self.now.next (order_of c.args.self.now) c.in_ok-place.place all (sym c.in_ok-place.was ∙ c.place_at.ensures.place)

pub returns-clause-pass : goal.returns-clause-pass
returns-clause-pass c = fewer-left c.args.self.now.next (order_of c.args.self.now) c.in_ok-place.place (sym c.in_ok-place.was ∙ c.place_at.ensures.place)
