use Rattle.std.proofs.Common.{length, ap, ◌∙◌}
use Rattle.std.proofs.lemmas.List.FromFn.{length-map-range_with_len}
use Rattle.std.proofs.lemmas.Result.{IfOk-weaker}
use Rattle.node_table.specs.ElementLinks.{link_of}
use Rattle.tree_cases.proofs.calls.links.Goals as goal

pub returns : goal.returns
returns c = IfOk-weaker c.of.result _ _ (λ links is. ap length is ∙ length-map-range_with_len (link_of c.args.plan.now.elements) 0 (length c.args.plan.now.elements)) c.of.ensures
