use Rattle.cursor_steps.specs.RunningChildren.{is_run_at}
use Rattle.node_table.proofs.AfterLists.{LinkedFrom}
use Rattle.node_table.proofs.siblings.link_children.Given as goal

abbrev pub invariant-children : goal.invariant-children
invariant-children l = LinkedFrom (is_run_at l.plan.elements) l.children l.place l.next l.fn.afters.items l.afters.items

abbrev pub decreases-children : goal.decreases-children
decreases-children l = l.place
