use Rattle.std.proofs.Common.{◌≡◌, ◌++◌}
use Rattle.element_tree.specs.Threads.{group_threads}
use Rattle.element_tree.proofs.threads.add_group.Given as goal

abbrev pub invariant-loop-number : goal.invariant-loop-number
invariant-loop-number l = l.threads.items ≡ l.fn.threads.items ++ group_threads l.element l.group l.number
