use Rattle.std.proofs.Common.{ap, ◌∙◌, ◌++◌, ◌∷◌, []}
use Rattle.std.proofs.lemmas.Result.{err_from_is_err_and}
use Rattle.element_props.proofs.ReadsLaws.{around_none, around_made, around_fails, no_memory_after}
use Rattle.element_props.proofs.asking.add_whole.Goals as goal

pub returns-then-not-fully-clause-asks : goal.returns-then-not-fully-clause-asks
returns-then-not-fully-clause-asks g c = rw (c.if-not-fully.true) (around_none _ _ _)

pub returns-in-Ok-clause-asks : goal.returns-in-Ok-clause-asks
returns-in-Ok-clause-asks g c = rw (c.if-not-fully.false) (around_made _ _ _ _ _ _ (c.as_str.ensures.value ∙ c.in_ok-text.ensures) c.in-Ok.ensures.gives)

pub returns-in-Ok-clause-adds : goal.returns-in-Ok-clause-adds
returns-in-Ok-clause-adds g c =
    rw (c.if-not-fully.false) (c.in_ok-push-in-Ok.ensures.items ∙ ap (λ x. c.args.whole.now.items ++ x ∷ []) (c.in-Ok.ensures.text ∙ (c.as_str.ensures.value ∙ c.in_ok-text.ensures)))

pub returns-clause-asks : goal.returns-clause-asks
returns-clause-asks g c = rw (c.if-not-fully.false) (around_fails _ _ _ _ _ _ (c.as_str.ensures.value ∙ c.in_ok-text.ensures) c.in-Err.ensures.gives)

pub returns-in_err-push-in-Ok-clause-asks : goal.returns-in_err-push-in-Ok-clause-asks
returns-in_err-push-in-Ok-clause-asks g c =
    let p = err_from_is_err_and c.from_residual-in_err-push-in-Ok.result c.from_residual-in_err-push-in-Ok.ensures.1 in
    rw (p.1, c.if-not-fully.false) (around_fails _ _ _ _ _ _ (c.as_str.ensures.value ∙ c.in_ok-text.ensures) (no_memory_after _ _ _ _ _ c.in-Ok.ensures.gives p.2))
