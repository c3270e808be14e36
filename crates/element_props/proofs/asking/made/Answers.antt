use Rattle.std.proofs.Common.{ap, refl, inr, Err}
use Rattle.std.proofs.lemmas.Result.{err_from_is_err_and}
use Rattle.element_props.proofs.ReadsLaws.{asked_cut, asked_made, asked_unread, asked_large}
use Rattle.element_props.proofs.asking.made.Goals as goal

pub returns-in-Ok-clause-gives : goal.returns-in-Ok-clause-gives
returns-in-Ok-clause-gives g c = rw (c.of.ensures, c.in_ok-kept.ensures, c.as_bytes.ensures.value) (asked_made _ _ _ _ (c.make.ensures.asks (λ e. cc)) c.in-Ok.ensures.read)

pub returns-in-Err-Syntax-clause-gives : goal.returns-in-Err-Syntax-clause-gives
returns-in-Err-Syntax-clause-gives g c = rw (c.in_ok-prop_path-in-Err-Syntax.ensures) (asked_unread _ _ _ _ (c.make.ensures.asks (λ e. cc)) (c.in-Err-Syntax.ensures.syntax (ap Err c.in-Err-Syntax.field-0-is)))

pub returns-in-Err-Size-clause-gives : goal.returns-in-Err-Size-clause-gives
returns-in-Err-Size-clause-gives g c = rw (c.in_ok-prop_path-in-Err-Size.ensures) (asked_large _ _ _ _ (c.make.ensures.asks (λ e. cc)) (c.in-Err-Size.ensures.size (ap Err c.in-Err-Size.field-0-is)))

pub returns-clause-gives : goal.returns-clause-gives
returns-clause-gives g c = asked_cut _ _ _ _ _ (c.in-Err-NoMemory.ensures.memory (ap Err c.in-Err-NoMemory.field-0-is)) refl

pub returns-in_err-prop_path-in-Err-Syntax-clause-gives : goal.returns-in_err-prop_path-in-Err-Syntax-clause-gives
returns-in_err-prop_path-in-Err-Syntax-clause-gives g c =
    let p = err_from_is_err_and c.from_residual-in_err-prop_path-in-Err-Syntax.result c.from_residual-in_err-prop_path-in-Err-Syntax.ensures.1 in
    rw p.1 (asked_cut _ _ _ _ _ (inr (c.make.ensures.asks (λ e. cc))) p.2)

pub returns-in_err-prop_path-in-Err-Size-clause-gives : goal.returns-in_err-prop_path-in-Err-Size-clause-gives
returns-in_err-prop_path-in-Err-Size-clause-gives g c =
    let p = err_from_is_err_and c.from_residual-in_err-prop_path-in-Err-Size.result c.from_residual-in_err-prop_path-in-Err-Size.ensures.1 in
    rw p.1 (asked_cut _ _ _ _ _ (inr (c.make.ensures.asks (λ e. cc))) p.2)
