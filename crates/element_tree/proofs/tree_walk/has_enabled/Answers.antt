use Rattle.std.proofs.Common.{◌∙◌}
use Rattle.element_tree.proofs.WalkLaws.{any_enabled}
use Rattle.element_tree.proofs.tree_walk.has_enabled.Goals as goal

pub returns : goal.returns
returns c = c.any_enabled.ensures ∙ any_enabled c.args.children.now
