use Rattle.std.proofs.Common.{ap, ◌∙◌, ◌++◌, ◌∷◌, []}
use Rattle.std.proofs.lemmas.Result.{err_from_is_err_and}
use Rattle.element_props.proofs.ReadsLaws.{one_made, one_fails, on_ok, no_memory_after}
use Rattle.element_props.proofs.asking.add_pattern.Goals as goal

pub returns-in_ok-push-in-Ok-clause-asks : goal.returns-in_ok-push-in-Ok-clause-asks
returns-in_ok-push-in-Ok-clause-asks g c = one_made (λ u. u) _ _ _ _ _ _ _ _ c.in-Ok.ensures.gives c.add_whole.ensures.asks

pub returns-in_ok-push-in-Ok-clause-regexes : goal.returns-in_ok-push-in-Ok-clause-regexes
returns-in_ok-push-in-Ok-clause-regexes g c =
    on_ok c.add_whole.result (c.in_ok-push-in-Ok.ensures.items ∙ ap (λ x. c.args.regexes.now.items ++ x ∷ []) c.in-Ok.ensures.text)

pub returns-in-Err-clause-asks : goal.returns-in-Err-clause-asks
returns-in-Err-clause-asks g c = one_fails _ _ _ _ _ _ c.in-Err.ensures.gives

pub returns-in_err-push-in-Ok-clause-asks : goal.returns-in_err-push-in-Ok-clause-asks
returns-in_err-push-in-Ok-clause-asks g c =
    let p = err_from_is_err_and c.from_residual.result c.from_residual.ensures.1 in
    rw p.1 (one_fails _ _ _ _ _ _ (no_memory_after _ _ _ _ _ c.in-Ok.ensures.gives p.2))
