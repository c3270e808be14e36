use Rattle.std.proofs.Common.{◌≡◌, take, map}
use Rattle.element_tree.specs.Names.{number_in, looked_up}
use Rattle.element_tree.proofs.names.numbers_in.Given as goal

abbrev pub invariant-elements : goal.invariant-elements
invariant-elements l = l.numbers.items ≡ map (λ e. number_in l.names (looked_up l.naming e)) (take l.element-index l.elements)
