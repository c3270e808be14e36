use Rattle.std.proofs.Common.{◌≡◌, map}
use Rattle.std.specs.List.{range_with_len}
use Rattle.node_table.specs.ElementLinks.{link_of}
use Rattle.node_table.proofs.element_links.Links.of.Given as goal

abbrev pub invariant-elements : goal.invariant-elements
invariant-elements l = l.links.items ≡ map (link_of l.plan.elements) (range_with_len 0 l.number)
