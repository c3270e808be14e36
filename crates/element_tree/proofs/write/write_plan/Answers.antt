use Rattle.element_tree.proofs.WriteLaws.{nests_same, plan_written}
use Rattle.element_tree.proofs.DepthLaws.{plan_read_back}
use Rattle.element_tree.proofs.write.write_plan.Goals as goal

pub tree_value-requires-clause-nests : goal.tree_value-requires-clause-nests
tree_value-requires-clause-nests c = nests_same 32 _ _ 0 c.elements.ensures.elements c.elements.ensures.plan.nests

pub returns-clause-text : goal.returns-clause-text
returns-clause-text c = plan_written _ _ _ _ _ c.version.ensures c.elements.ensures.elements c.in_ok-value.ensures c.in_ok-text.ensures.text

pub returns-clause-read_back : goal.returns-clause-read_back
returns-clause-read_back c = plan_read_back _ _ _ _ _ c.version.ensures c.elements.ensures.elements c.in_ok-value.ensures c.in_ok-text.ensures.utf8 c.in_ok-text.ensures.reads_back
