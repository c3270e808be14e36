use Rattle.std.proofs.Common.{◌≡◌, length, arith, ap}
use Rattle.node_table.proofs.LinkLaws.{children_linked, all_linked}
use Rattle.node_table.proofs.siblings.afters_of.Goals as goal

pub elements-preserved : goal.elements-preserved
elements-preserved c =
    children_linked c.args.plan.now c.elements-element-items.ensures.plan c.elements-element-items.result.now c.elements.element-index c.element-item.result c.as_slice.result.now
    c.elements.afters.items c.link_children.new.afters.items c.elements-element-items.ensures.elements c.elements-test.true c.element-item.is c.as_slice.ensures c.link_children.ensures.count c.link_children.ensures.each
    c.elements.invariant

pub returns : goal.returns
returns c =
    let at_end : c.elements.element-index ≡ length c.args.plan.now.elements = omega (arith, ap length c.elements-element-items.ensures.elements) in
    all_linked c.args.plan.now c.elements-element-items.ensures.plan c.elements.element-index c.elements.afters.items at_end c.elements.invariant
