use Rattle.std.proofs.Common.{◌≡◌, false, None, sym, ap, ◌∙◌, subst, arith}
use Rattle.std.specs.Prelude.{nat_eq}
use lib.Pointwise.{pointwise}
use Rattle.thread_vars.specs.Vars.{IsKept, value_of, bytes_of}
use Rattle.thread_vars.proofs.VarLaws.{set_already, found_is}
use Rattle.thread_vars.proofs.BesideLaws.{all-kept}
use Rattle.thread_vars.proofs.vars.Vars.is_set.Goals as goal

pub returns-in-Some : goal.returns-in-Some
returns-in-Some c =
    let v = c.self.inside in
    let kept : IsKept (bytes_of c.args.self.now) c.args.self.now = subst (λ vars. IsKept (bytes_of vars) vars) c.self.view_is (all-kept v.name.items v.digits v.table c.kept.ensures v.ahead v.beside (λ b. (c.self.invariant b).1)) in
    let same : c.eq.result ≡ pointwise nat_eq c.in-Some.old.now c.args.value.now = c.eq.ensures ∙ ap (λ b. pointwise nat_eq b c.args.value.now) c.bytes.ensures in
    set_already c.args.name.now c.args.value.now c.args.self.now (bytes_of c.args.self.now) c.eq.result kept (omega (arith, c.if-value-gt-MOST_TEXT.false))
    (found_is c.args.name.now c.args.value.now c.args.self.now c.in-Some.old.now c.eq.result (sym c.in-Some.ensures) same)

pub returns-in-None : goal.returns-in-None
returns-in-None c =
    let v = c.self.inside in
    let kept : IsKept (bytes_of c.args.self.now) c.args.self.now = subst (λ vars. IsKept (bytes_of vars) vars) c.self.view_is (all-kept v.name.items v.digits v.table c.kept.ensures v.ahead v.beside (λ b. (c.self.invariant b).1)) in
    let none : None ≡ value_of c.args.name.now c.args.self.now = c.in-None.ensures in
    set_already c.args.name.now c.args.value.now c.args.self.now (bytes_of c.args.self.now) false kept (omega (arith, c.if-value-gt-MOST_TEXT.false)) (λ h. cc, λ h. cc)
