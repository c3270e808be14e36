use Rattle.std.proofs.Common.{◌≡◌, ◌-◌, take, map}
use Rattle.serde_json.specs.View.{view}
use Rattle.element_tree.specs.PlanWritten.{data_of, written_tree}
use Rattle.element_tree.proofs.write.+tree_value.Given as goal

abbrev pub decreases-tree_value : goal.decreases-tree_value
decreases-tree_value l = l.depth

-- the values so far are those of the first children
abbrev pub invariant-children : goal.invariant-children
invariant-children l = map view l.children.items ≡ map (λ n. data_of (written_tree (l.depth - 1) (record { version = l.version; elements = l.elements }) n)) (take l.child-index l.child-items)
