use Rattle.std.proofs.Common.{◌≡◌, sym, ap, ◌∙◌, refl, arith}
use Rattle.element_tree.specs.Walk.{version_in, IsWalked}
use Rattle.element_tree.proofs.PlanLaws.{well_kept}
use Rattle.element_tree.proofs.tree_walk.plan_of.Goals as goal

pub of-plan-requires : goal.of-plan-requires
of-plan-requires c =
    let tables = c.in_ok-tables.ensures.tables in
    let answers = c.in_ok-tables.ensures.answers in
    well_kept c.args.elements.items c.version_in-version.result _ _ _ _ _ c.requires.walked c.requires.few (c.version_in-version.ensures ∙ ap version_in c.deref-2.ensures.value)
    (rw c.deref.ensures.value at answers) (rw c.deref.ensures.value at tables)
