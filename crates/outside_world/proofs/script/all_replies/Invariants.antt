use Rattle.std.proofs.Common.{◌≡◌, take}
use Rattle.std.specs.Prelude.{map}
use Rattle.element_tree.specs.Tree.{replies_of_element}
use Rattle.outside_world.proofs.script.all_replies.Given as goal

abbrev pub invariant-loop-element : goal.invariant-loop-element
invariant-loop-element l = l.all.items ≡ map replies_of_element (take l.element-index l.elements)
