use Rattle.element_tree.proofs.WalkLaws.{with_element}
use Rattle.element_tree.proofs.tree_walk.set_children.Goals as goal

pub returns : goal.returns
returns c = with_element _ _ _ _ _ c.requires c.index_mut.ensures.value c.of.ensures
