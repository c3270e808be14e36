use Rattle.std.proofs.Common.{◌≡◌, map}
use Rattle.std.specs.List.{range_with_len}
use Rattle.node_table.specs.KeptPackages.{kept_of}
use Rattle.node_table.proofs.kept_packages.NodeTable.of.Given as goal

abbrev pub invariant-elements : goal.invariant-elements
invariant-elements l = l.packages.items ≡ map (kept_of l.plan.elements) (range_with_len 0 l.number)
