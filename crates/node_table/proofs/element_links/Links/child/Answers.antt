use Rattle.std.proofs.Common.{◌∙◌}
use Rattle.node_table.proofs.LinkLaws.{child_read}
use Rattle.node_table.proofs.element_links.Links.child.Goals as goal

pub returns : goal.returns
returns c = λ elements is. c.run_at.ensures ∙ child_read elements c.deref.result.now c.args.element c.args.place (c.deref.ensures.value ∙ c.self.view_is ∙ is)
