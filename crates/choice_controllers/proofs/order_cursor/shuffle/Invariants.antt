use Rattle.std.proofs.Common.{◌≡◌, ◌-◌, length}
use Rattle.std.specs.Prelude.{IsPermutation}
use Rattle.var_functions.specs.FunctionState.{IsLater}
use Rattle.choice_controllers.specs.RandomOrderController.{shuffled}
use Rattle.choice_controllers.proofs.order_cursor.shuffle.Given as goal

-- the places that are left are put in order with the words that are left
abbrev pub invariant-loop-index : goal.invariant-loop-index
invariant-loop-index l = record {
  order : shuffled (l.index - 1) l.places l.fns ≡ shuffled (length l.initial.places - 1) l.initial.places l.initial.fns;
  later : IsLater l.initial.fns l.fns;
  permutation : IsPermutation l.initial.places l.places;
}
