use Rattle.std.proofs.Common.{◌≡◌}
use Rattle.choice_controllers.specs.RandomOrderController.{places}
use Rattle.choice_controllers.proofs.order_cursor.places.Given as goal

-- so far the places below this one
abbrev pub invariant-loop-place : goal.invariant-loop-place
invariant-loop-place l = l.places.items ≡ places l.place
