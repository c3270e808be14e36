use Rattle.std.proofs.Common.{◌≡◌, ◌≤◌, ◌+◌, ◌++◌, drop, length}
use Rattle.element_tree.specs.Threads.{threads_from, threads_in}
use Rattle.element_tree.proofs.threads.threads_of.Given as goal

abbrev pub invariant-elements : goal.invariant-elements
invariant-elements l = record {
  left : l.threads.items ++ threads_from l.number l.group (drop l.number l.elements) ≡ threads_in l.elements;
  few : length l.threads.items ≤ 64;
  group : l.group ≤ l.number + 1;
}
