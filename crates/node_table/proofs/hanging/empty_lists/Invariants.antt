use Rattle.std.proofs.Common.{◌≡◌, [], replicate}
use Rattle.node_table.proofs.hanging.empty_lists.Given as goal

abbrev pub invariant-places : goal.invariant-places
invariant-places l = l.lists.items ≡ replicate l._place []
