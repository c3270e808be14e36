use Rattle.std.proofs.Common.{suc, ◌+◌, ◌*◌, length, drop}
use Rattle.jm_meaning.specs.Children.{in_order}
use Rattle.open_elements.specs.ChildrenLeft.{children_left}
use Rattle.plain_run.specs.Levels.{at_level}
use Rattle.plain_run.proofs.Ways.{OnWay}
use Rattle.plain_run.proofs.CursorWays.{Turning}
use Rattle.plain_run.proofs.elements.+elements.Given as goal

abbrev pub decreases-run_element : goal.decreases-run_element
decreases-run_element g l = 5 * l.level.depth

abbrev pub decreases-run_children : goal.decreases-run_children
decreases-run_children g l = 5 * l.level.depth + 1

abbrev pub decreases-run_turns : goal.decreases-run_turns
decreases-run_turns g l = 5 * l.level.depth + 2

abbrev pub decreases-run_transaction : goal.decreases-run_transaction
decreases-run_transaction g l = 5 * l.level.depth + 2

abbrev pub decreases-run_section : goal.decreases-run_section
decreases-run_section g l = 5 * l.level.depth + 2

abbrev pub decreases-run_entered : goal.decreases-run_entered
decreases-run_entered g l = 5 * l.level.depth + 3

abbrev pub invariant-run_children-loop-child : goal.invariant-run_children-loop-child
invariant-run_children-loop-child g l =
    OnWay (g.O.Outside.account l.fn.outside) l.fn.progress
    (in_order (at_level l.level) l.round l.children)
    (in_order (at_level l.level) l.round (drop l.child-index l.children))
    l.progress (g.O.Outside.account l.outside)

abbrev pub invariant-run_turns-turns : goal.invariant-run_turns-turns
invariant-run_turns-turns g l =
    Turning (g.O.Outside.account l.fn.outside) l.fn.progress (at_level l.level) l.round l.level.plan.now.elements l.number l.element l.fn.cursor
    l.progress l.cursor (g.O.Outside.account l.outside)

abbrev pub decreases-run_turns-turns : goal.decreases-run_turns-turns
decreases-run_turns-turns g l = l.progress.rounds * suc (length l.children) + children_left l.cursor
