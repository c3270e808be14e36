use Rattle.std.proofs.Common.{List, Option, sym, ap, ◌∙◌}
use Rattle.element_tree.specs.Scope.{Scope}
use Rattle.node_table.specs.KeptPackages.{package_at}
use Rattle.node_table.proofs.PackageLaws.{is_kept}
use Rattle.node_table.proofs.kept_packages.NodeTable.package.Goals as goal

pub returns : goal.returns
returns c = λ elements is.
    is_kept elements c.args.self.now c.args.sampler c.in-Some.package.now is (sym (c.in-Some.ensures ∙ ap (λ (xs : List (Option Scope)). package_at xs c.args.sampler) (c.deref.ensures.value ∙ c.self.view_is)))
