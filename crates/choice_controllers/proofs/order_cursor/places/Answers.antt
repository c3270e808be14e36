use Rattle.std.proofs.Common.{[], ◌∷◌, ◌++◌, ap, ◌∙◌}
use Rattle.choice_controllers.proofs.OrderLaws.{places-more}
use Rattle.choice_controllers.proofs.order_cursor.places.Goals as goal

pub loop-place-preserved : goal.loop-place-preserved
loop-place-preserved c = c.in_ok-push.ensures.items ∙ ap (λ xs. xs ++ c.loop-place.place ∷ []) c.loop-place.invariant ∙ places-more c.loop-place.place
