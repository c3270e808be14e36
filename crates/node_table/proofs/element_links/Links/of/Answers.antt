use Rattle.node_table.specs.ElementLinks.{link_of}
use Rattle.node_table.proofs.Numbering.{numbered_more}
use Rattle.node_table.proofs.element_links.Links.of.Goals as goal

pub elements-preserved : goal.elements-preserved
elements-preserved c = numbered_more (link_of c.args.plan.now.elements) c.elements.number c.in_ok-link.link c.elements.links.items c.push.new.self.items c.elements.invariant c.in_ok-link.ensures c.in_ok-push.ensures.items
