use Rattle.std.proofs.Common.{◌≡◌, ◌∙◌, ap, subst, sym, Some, Err}
use Rattle.std.proofs.lemmas.Result.{err_from_is_err_and}
use Rattle.thread_vars.specs.Vars.{Puts, put_var, last_sample_ok, truth_text}
use Rattle.thread_vars.proofs.VarLaws.{known_puts}
use Rattle.thread_vars.proofs.BesideLaws.{put-told}
use Rattle.thread_vars.proofs.table.Table.put_last_ok.Goals as goal

pub returns-then-is_known : goal.returns-then-is_known
returns-then-is_known c =
    subst (λ vars. put_var last_sample_ok (truth_text c.args.ok) vars ≡ Some vars) c.self.view_is
    (known_puts c.self.inside.last_ok c.args.ok c.self.inside.pairs c.self.inside.bytes c.self.invariant.0 c.self.invariant.1 (c.is_known.ensures c.if-is_known.true))

pub returns-in_err-put_copy : goal.returns-in_err-put_copy
returns-in_err-put_copy c =
    let p = err_from_is_err_and c.from_residual.result c.from_residual.ensures.1 in
    rw (p.1, p.2) (subst (λ v. Puts (put_var last_sample_ok v c.args.self.now) c.args.self.now c.put_copy.new.self (Err c.in_err-put_copy.field-0.0)) c.truth_text.ensures c.in_err-put_copy.ensures.exact)

pub invariant_of-self : goal.invariant_of-self
invariant_of-self c =
    let put : put_var last_sample_ok (truth_text c.args.ok) c.args.self.now ≡ Some c.self-2.inside.pairs =
    subst (λ v. put_var last_sample_ok v c.args.self.now ≡ Some c.put_copy.new.self) c.truth_text.ensures c.in_ok-put_copy.ensures.exact ∙ ap Some (sym c.self-2.view_is) in
    (c.self-2.invariant.0, put-told last_sample_ok (truth_text c.args.ok) c.args.self.now c.self-2.inside.pairs put)

pub returns : goal.returns
returns c =
    subst (λ v. put_var last_sample_ok v c.args.self.now ≡ Some c.put_copy.new.self) c.truth_text.ensures c.in_ok-put_copy.ensures.exact ∙ ap Some (sym c.self-2.view_is)
