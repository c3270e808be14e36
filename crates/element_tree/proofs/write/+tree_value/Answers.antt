use Rattle.std.proofs.Common.{◌∙◌, arith}
use Rattle.element_tree.proofs.WriteLaws.{tree_written}
use Rattle.element_tree.proofs.write.+tree_value.Goals as goal

pub returns : goal.returns
returns t c = c.in_ok-value-2.ensures ∙ tree_written c.args.depth c.args.version c.args.number c.args.elements.now _ _ _ c.children.child-index c.element_at-element.ensures.deep c.element_at-element.ensures.found c.as_slice-child-items.ensures c.children-test.false c.children.invariant
