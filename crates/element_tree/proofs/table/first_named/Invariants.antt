use Rattle.std.proofs.Common.{◌≡◌, drop, map}
use Rattle.element_tree.specs.Named.{named_seen}
use Rattle.element_tree.specs.Table as table
use Rattle.element_tree.proofs.table.first_named.Given as goal

abbrev pub invariant-loop-named : goal.invariant-loop-named
invariant-loop-named l = table.first_named l.name (map named_seen (drop l.named-index l.names)) ≡ table.first_named l.name (map named_seen l.names)
