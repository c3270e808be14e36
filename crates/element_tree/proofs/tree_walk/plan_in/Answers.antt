use Rattle.std.proofs.Common.{◌≡◌, sym, ap, ◌∙◌, refl, arith}
use Rattle.std.proofs.lemmas.Result.{err_from_is_err_and}
use Rattle.element_tree.proofs.BuildLaws.{walk_refuses, walk_done, is_walked, plan_done, plan_refuses}
use Rattle.element_tree.proofs.tree_walk.plan_in.Goals as goal

pub returns-in_err-walk : goal.returns-in_err-walk
returns-in_err-walk g c =
    let p = err_from_is_err_and c.from_residual.result c.from_residual.ensures.1 in
    rw (p.1, p.2) (walk_refuses _ _ _ _ c.version_of.ensures c.new-places.ensures.items c.new-elements.ensures.items _ _ _ c.in_err-walk.ensures.adds)

pub plan_of-requires-clause-walked : goal.plan_of-requires-clause-walked
plan_of-requires-clause-walked g c =
    let adds = c.in_ok-walk.ensures.adds in
    is_walked _ _ _ _ (walk_done _ _ _ _ c.version_of.ensures c.new-places.ensures.items c.new-elements.ensures.items _ _ _ adds.0 adds.1 adds.2)

pub returns-in_err-plan : goal.returns-in_err-plan
returns-in_err-plan g c =
    let p = err_from_is_err_and c.from_residual-in_err-plan.result c.from_residual-in_err-plan.ensures.1 in
    let adds = c.in_ok-walk.ensures.adds in
    rw (p.1, p.2) (plan_refuses _ _ _ _ _ (walk_done _ _ _ _ c.version_of.ensures c.new-places.ensures.items c.new-elements.ensures.items _ _ _ adds.0 adds.1 adds.2) c.in_err-plan.ensures)

pub returns : goal.returns
returns g c =
    let adds = c.in_ok-walk.ensures.adds in
    plan_done _ _ _ _ _ (walk_done _ _ _ _ c.version_of.ensures c.new-places.ensures.items c.new-elements.ensures.items _ _ _ adds.0 adds.1 adds.2) c.in_ok-plan.ensures
