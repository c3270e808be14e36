use Rattle.std.proofs.Common.{◌≡◌, ◌≤◌, drop, length}
use Rattle.std.specs.List.{filter_map}
use Rattle.element_tree.specs.Names.{distinct_after, names_of, name_by}
use Rattle.element_tree.proofs.names.names_of.Given as goal

abbrev pub invariant-elements : goal.invariant-elements
invariant-elements l = record {
  left : distinct_after l.names.items (filter_map (name_by l.naming) (drop l.element-index l.elements)) ≡ names_of l.naming l.elements;
  few : length l.names.items ≤ 256;
}
