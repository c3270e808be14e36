use Rattle.std.proofs.Common.{◌≡◌, Some, Err, false, subst}
use Rattle.std.proofs.lemmas.Result.{err_from_is_err_and}
use Rattle.thread_vars.specs.Vars.{put_var, Puts, last_sample_ok, truth_text}
use Rattle.thread_vars.specs.Beside.{with_beside}
use Rattle.thread_vars.proofs.BesideLaws.{put-other, stands-other, refused-puts, not_index}
use Rattle.thread_vars.proofs.vars.Vars.put_last_ok.Goals as goal

pub returns-in_err-put_last_ok : goal.returns-in_err-put_last_ok
returns-in_err-put_last_ok c =
    let v = c.self.inside in
    let p = err_from_is_err_and c.from_residual.result c.from_residual.ensures.1 in
    let error = c.in_err-put_last_ok.field-0.0 in
    rw (p.1, p.2) (subst (λ vars. Puts (put_var last_sample_ok (truth_text c.args.ok) vars) vars (with_beside v.beside v.name.items v.digits c.put_last_ok.new.self) (Err error)) c.self.view_is
    (refused-puts v.name.items v.digits v.table c.kept.ensures v.ahead v.beside false (λ b. (c.self.invariant b).1) last_sample_ok (truth_text c.args.ok)
    (λ b. not_index v.name.items v.element.items (c.self.invariant b).0) c.put_last_ok.new.self error c.in_err-put_last_ok.ensures))

pub invariant_of-self-2 : goal.invariant_of-self-2
invariant_of-self-2 c =
    let v = c.self.inside in
    λ on. (
      (c.self.invariant on).0,
      stands-other v.name.items v.digits v.table c.kept.ensures v.ahead v.beside (λ b. (c.self.invariant b).1) last_sample_ok (truth_text c.args.ok) c.put_last_ok.new.self
          (λ b. not_index v.name.items v.element.items (c.self.invariant b).0) c.in_ok-put_last_ok.ensures on,
    )

pub returns : goal.returns
returns c =
    let v = c.self.inside in
    subst (λ vars. put_var last_sample_ok (truth_text c.args.ok) vars ≡ Some (with_beside v.beside v.name.items v.digits c.put_last_ok.new.self)) c.self.view_is
    (put-other v.name.items v.digits v.table c.kept.ensures v.ahead v.beside (λ b. (c.self.invariant b).1) last_sample_ok (truth_text c.args.ok) c.put_last_ok.new.self
    (λ b. not_index v.name.items v.element.items (c.self.invariant b).0) c.kept-2.ensures.ordered c.in_ok-put_last_ok.ensures)
