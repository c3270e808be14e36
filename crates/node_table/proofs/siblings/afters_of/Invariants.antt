use Rattle.node_table.proofs.LinkLaws.{LinkedTo}
use Rattle.node_table.proofs.siblings.afters_of.Given as goal

abbrev pub invariant-elements : goal.invariant-elements
invariant-elements l = LinkedTo l.plan.elements l.element-index l.afters.items
