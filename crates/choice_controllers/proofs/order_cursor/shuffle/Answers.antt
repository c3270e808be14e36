use Rattle.std.proofs.Common.{refl, ◌∙◌}
use Rattle.std.proofs.lemmas.List.Sorted.{IsPermutation-refl, IsPermutation-trans}
use Rattle.var_functions.proofs.LaterLaws.{later_same, later_draw, later_then}
use Rattle.choice_controllers.proofs.OrderLaws.{shuffled-more}
use Rattle.choice_controllers.proofs.order_cursor.shuffle.Goals as goal

pub loop-index-init : goal.loop-index-init
loop-index-init c = record { order = refl; later = later_same _; permutation = IsPermutation-refl _ }

pub loop-index-preserved : goal.loop-index-preserved
loop-index-preserved c = record {
  order = shuffled-more c.loop-index.index c.draw.result c.loop-index.places c.swap.new.self c.loop-index.fns c.draw.new.self c.loop-index-test.true c.draw.ensures.word c.draw.ensures.after c.swap.ensures.after ∙ c.loop-index.invariant.order;
  later = later_then _ _ _ c.loop-index.invariant.later (later_draw _ _ c.draw.ensures.after);
  permutation = IsPermutation-trans _ _ _ c.loop-index.invariant.permutation c.swap.ensures.permutation;
}
