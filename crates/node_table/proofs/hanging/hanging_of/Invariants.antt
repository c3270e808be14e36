use Rattle.node_table.proofs.PackageLaws.{HungTo}
use Rattle.node_table.proofs.hanging.hanging_of.Given as goal

abbrev pub invariant-elements : goal.invariant-elements
invariant-elements l = HungTo l.plan.elements l.class l.number l.lists.items
