use Rattle.std.proofs.Common.{◌≡◌}
use Rattle.std.proofs.Math.ListN.{take}
use Rattle.std.specs.List.{filter}
use Rattle.cursor_steps.specs.RunningChildren.{is_run_at}
use Rattle.plain_run.proofs.children.children_of.Given as goal

abbrev pub invariant-loop-child : goal.invariant-loop-child
invariant-loop-child l = l.children.items ≡ filter (is_run_at l.plan.elements) (take l.child-index l.element.children)
