use Rattle.element_tree.proofs.AgainLaws.{built_again, props_again}
use Rattle.element_tree.proofs.JsonTrees.{reading_json}
use Rattle.element_tree.proofs.again.written_is_built_again.Goals as goal

pub returns : goal.returns
returns c = λ text tree plan read built. built_again (props_again c.written_is_read_again.ensures) tree plan (reading_json text tree read) built
