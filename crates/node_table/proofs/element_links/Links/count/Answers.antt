use Rattle.std.proofs.Common.{ap, ◌∙◌, ℕ, List, length}
use Rattle.std.specs.Prelude.{min}
use Rattle.node_table.proofs.LinkLaws.{link_read, count_read}
use Rattle.node_table.proofs.element_links.Links.count.Goals as goal

pub returns : goal.returns
returns c = λ elements e is there.
    c.min.ensures ∙ ap (λ (ms : List ℕ). min (length ms) 65535) c.as_slice.ensures
    ∙ count_read elements c.args.element e _ (link_read elements _ _ _ _ _ c.index.ensures c.from.ensures c.self.view_is c.requires is) there
