use Rattle.std.proofs.Common.{◌≡◌, sym, ap, ◌∙◌, refl, arith, map}
use Rattle.std.proofs.lemmas.Result.{err_from_is_err_and}
use Rattle.element_tree.proofs.WalkLaws.{raw_seen, own_unplaced, own_no_props, own_no_kind, own_cut, own_done}
use Rattle.element_tree.proofs.tree_walk.own.Goals as goal

pub returns-in_err-kind-clause-gives : goal.returns-in_err-kind-clause-gives
returns-in_err-kind-clause-gives g c =
    let p = err_from_is_err_and c.from_residual.result c.from_residual.ensures.1 in
    rw (p.1, p.2, raw_seen c.args.raw.now, ← c.deref.ensures.value) (own_unplaced _ _ _ _ _ _ _ _ (g.G.Patterns.account c.args.patterns.now) _ c.in_err-kind.ensures.answers)

pub returns-in_err-props-clause-gives : goal.returns-in_err-props-clause-gives
returns-in_err-props-clause-gives g c =
    let p = err_from_is_err_and c.from_residual-in_err-props.result c.from_residual-in_err-props.ensures.1 in
    rw (p.1, p.2, raw_seen c.args.raw.now, ← c.deref.ensures.value) (own_no_props _ _ _ _ _ _ _ _ _ c.in_ok-kind.kind _ _ c.in_ok-kind.ensures.answers c.rows.ensures.rows c.in_err-props.ensures.gives)

pub returns-in-Some-clause-gives : goal.returns-in-Some-clause-gives
returns-in-Some-clause-gives g c = rw (raw_seen c.args.raw.now, ← c.deref.ensures.value)
    (own_done _ _ _ _ _ _ _ _ _ c.in_ok-kind.kind _ c.in_ok-props.props.items c.in-Some.made c.in_ok-kind.ensures.answers c.rows.ensures.rows c.in_ok-props.ensures.gives (sym c.in-Some.ensures))

pub returns-in_ok-path_at-in-None-clause-gives : goal.returns-in_ok-path_at-in-None-clause-gives
returns-in_ok-path_at-in-None-clause-gives g c = rw (c.in_ok-path_at-in-None.ensures, raw_seen c.args.raw.now, ← c.deref.ensures.value)
    (own_no_kind _ _ _ _ _ _ _ _ _ c.in_ok-kind.kind _ c.in_ok-props.props.items c.in_ok-kind.ensures.answers c.rows.ensures.rows c.in_ok-props.ensures.gives (sym c.in-None.ensures))

pub returns-in_err-path_at-in-None-clause-gives : goal.returns-in_err-path_at-in-None-clause-gives
returns-in_err-path_at-in-None-clause-gives g c =
    let p = err_from_is_err_and c.from_residual-in_err-path_at-in-None.result c.from_residual-in_err-path_at-in-None.ensures.1 in
    rw (p.1, raw_seen c.args.raw.now, ← c.deref.ensures.value)
    (own_cut _ _ _ _ _ _ _ _ _ c.in_ok-kind.kind _ c.in_ok-props.props.items _ c.in_ok-kind.ensures.answers c.rows.ensures.rows c.in_ok-props.ensures.gives p.2)
