use Rattle.std.proofs.Common.{sym, ap, ◌∙◌, is_some}
use Rattle.node_table.proofs.PackageLaws.{sampler_kept}
use Rattle.tree_cases.proofs.plan.write_kept.Goals as goal

pub package-kept-requires : goal.package-kept-requires
package-kept-requires c =
    ap is_some (sampler_kept c.args.plan.now.elements c.in_ok-table.table c.args.number c.in_ok-table.ensures (sym c.is_sampler.ensures ∙ c.if-is_sampler.true))
