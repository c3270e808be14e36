use Rattle.std.proofs.Common.{◌≡◌, ◌∙◌, true, false, ap, subst, sym}
use Rattle.std.specs.Prelude.{MatchBool}
use Rattle.std.specs.List.Sorted.{IsStrictlySortedBy}
use Rattle.std.specs.Map.{keys_of}
use Rattle.thread_vars.specs.Vars.{value_of, without_var, is_same, by_bytes}
use Rattle.thread_vars.specs.Beside.{with_beside}
use Rattle.name_map.proofs.NameLaws.{value_of-without_var}
use Rattle.thread_vars.proofs.BesideLaws.{at_true, at_false, all-kept, without-own, without-other, without-stands}
use Rattle.thread_vars.specs.Beside.{IsBeside}
use Rattle.thread_vars.proofs.vars.Vars.remove.Goals as goal

pub invariant_of-self-else-removed : goal.invariant_of-self-else-removed
invariant_of-self-else-removed c =
    let v = c.self.inside in
    let V = with_beside v.beside v.name.items v.digits v.table in
    let asked = c.args.name.now in
    let told : MatchBool c.is_beside-removed.result ((v.beside ≡ true) × (asked ≡ v.name.items)) (v.beside ≡ true → is_same asked v.name.items ≡ false) = rw (c.deref.ensures.value) at c.is_beside-removed.ensures in
    λ on. (
      (c.self.invariant on).0,
      subst (λ vars. IsBeside v.ahead v.name.items v.digits vars) (sym c.remove-2.ensures.exact)
          (without-stands v.name.items v.digits v.table c.kept.ensures v.ahead v.beside (λ b. (c.self.invariant b).1) asked (at_false c.is_beside-removed.result _ _ c.if-removed.false told) on),
    )

pub returns-then-removed-clause-exact : goal.returns-then-removed-clause-exact
returns-then-removed-clause-exact c =
    let v = c.self.inside in
    let V = with_beside v.beside v.name.items v.digits v.table in
    let asked = c.args.name.now in
    let told : MatchBool c.is_beside-removed.result ((v.beside ≡ true) × (asked ≡ v.name.items)) (v.beside ≡ true → is_same asked v.name.items ≡ false) = rw (c.deref.ensures.value) at c.is_beside-removed.ensures in
    let removed = at_true c.is_beside-removed.result _ _ c.if-removed.true told in
    c.remove-2.ensures.exact ∙ without-own v.name.items v.digits v.table c.kept.ensures v.ahead v.beside (λ b. (c.self.invariant b).1) removed.0 asked removed.1 ∙ ap (without_var asked) c.self.view_is

pub returns-else-removed-clause-exact : goal.returns-else-removed-clause-exact
returns-else-removed-clause-exact c =
    let v = c.self.inside in
    let V = with_beside v.beside v.name.items v.digits v.table in
    let asked = c.args.name.now in
    let told : MatchBool c.is_beside-removed.result ((v.beside ≡ true) × (asked ≡ v.name.items)) (v.beside ≡ true → is_same asked v.name.items ≡ false) = rw (c.deref.ensures.value) at c.is_beside-removed.ensures in
    ap (with_beside v.beside v.name.items v.digits) c.remove-2.ensures.exact
    ∙ without-other v.name.items v.digits v.table c.kept.ensures v.ahead v.beside (λ b. (c.self.invariant b).1) asked (at_false c.is_beside-removed.result _ _ c.if-removed.false told)
    (subst (λ vars. IsStrictlySortedBy by_bytes (keys_of vars)) c.remove-2.ensures.exact c.kept-2.ensures.ordered)
    ∙ ap (without_var asked) c.self.view_is

pub returns-then-removed-clause-values : goal.returns-then-removed-clause-values
returns-then-removed-clause-values c = λ other.
    let v = c.self.inside in
    let ordered = subst (λ vars. IsStrictlySortedBy by_bytes (keys_of vars)) c.self.view_is (all-kept v.name.items v.digits v.table c.kept.ensures v.ahead v.beside (λ b. (c.self.invariant b).1)).ordered in
    ap (value_of other) (returns-then-removed-clause-exact c) ∙ value_of-without_var other c.args.name.now c.args.self.now ordered

pub returns-else-removed-clause-values : goal.returns-else-removed-clause-values
returns-else-removed-clause-values c = λ other.
    let v = c.self.inside in
    let ordered = subst (λ vars. IsStrictlySortedBy by_bytes (keys_of vars)) c.self.view_is (all-kept v.name.items v.digits v.table c.kept.ensures v.ahead v.beside (λ b. (c.self.invariant b).1)).ordered in
    ap (value_of other) (returns-else-removed-clause-exact c) ∙ value_of-without_var other c.args.name.now c.args.self.now ordered
