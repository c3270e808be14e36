use Rattle.node_table.specs.KeptPackages.{kept_of}
use Rattle.node_table.proofs.Numbering.{numbered_more}
use Rattle.node_table.proofs.kept_packages.NodeTable.of.Goals as goal

pub elements-preserved : goal.elements-preserved
elements-preserved c = numbered_more (kept_of c.args.plan.now.elements) c.elements.number c.in_ok-kept.kept c.elements.packages.items c.push.new.self.items c.elements.invariant c.in_ok-kept.ensures c.in_ok-push.ensures.items
