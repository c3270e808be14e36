use Rattle.std.proofs.Common.{ap, ◌∙◌}
use Rattle.std.specs.Prelude.{unwrap_or}
use Rattle.node_table.specs.declared.element_links.Link.{Link}
use Rattle.node_table.proofs.LinkLaws.{link_read}
use Rattle.node_table.proofs.element_links.Links.looping.Goals as goal

pub returns : goal.returns
returns c = λ elements is. c.unwrap_or.ensures ∙ ap (λ (l : Link). unwrap_or l.above c.args.element) (link_read elements _ _ _ _ _ c.index.ensures c.from.ensures c.self.view_is c.requires is)
