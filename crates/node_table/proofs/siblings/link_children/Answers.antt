use Rattle.std.proofs.Common.{◌≤◌, arith}
use Rattle.node_table.proofs.AfterLists.{linked_from_all}
use Rattle.node_table.proofs.siblings.link_children.Goals as goal

pub returns : goal.returns
returns c =
    let at_first : c.children.place ≤ 0 = omega arith in
    record { count = c.children.invariant.count; each = linked_from_all _ _ _ _ _ _ at_first c.children.invariant }
