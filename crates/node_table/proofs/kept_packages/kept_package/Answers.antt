use Rattle.std.proofs.Common.{◌≡◌, false}
use Rattle.element_tree.specs.Types.{class_of, is_leaf}
use Rattle.node_table.proofs.PackageLaws.{inner_kept}
use Rattle.node_table.proofs.kept_packages.kept_package.Goals as goal

pub returns : goal.returns
returns c =
    let inner : is_leaf (class_of c.args.element.now.kind) ≡ false = cc in
    inner_kept c.args.plan.now c.requires.plan c.args.packages.now c.args.hanging.now c.args.number c.args.element.now c.in_ok-package.package c.requires.packages c.requires.hanging c.requires.there
    inner c.in_ok-package.ensures
