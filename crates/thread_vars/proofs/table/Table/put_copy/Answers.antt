use Rattle.std.proofs.Common.{◌≡◌, ◌≤◌, ◌<◌, ◌-◌, ◌+◌, length, refl, sym, ap, ◌∙◌, subst, arith, Some}
use Rattle.std.specs.Prelude.{is_some, if◌then◌else◌}
use Rattle.thread_vars.specs.Vars.{IsKept, value_of, with_var, bytes_of, bytes_at, most_bytes}
use Rattle.thread_vars.specs.Beside.{IsKnown}
use Rattle.thread_vars.proofs.VarLaws.{bytes_at-le, past_limit, within_limit, kept_with, known_with, bytes_when}
use Rattle.thread_vars.proofs.table.Table.put_copy.Goals as goal

pub returns-then-not-has_room-clause-exact : goal.returns-then-not-has_room-clause-exact
returns-then-not-has_room-clause-exact c =
    let kept : IsKept c.self.inside.bytes c.args.self.now = subst (IsKept c.self.inside.bytes) c.self.view_is c.self.invariant.0 in
    let past : most_bytes < bytes_of c.args.self.now - bytes_at c.args.name.now c.args.self.now + (length c.args.name.now + length c.args.value.now) = rw c.if-not-has_room.true at c.has_room.ensures in
    (past_limit c.args.name.now c.args.value.now c.args.self.now kept.ordered past, refl)

pub overflow_sub-self : goal.overflow_sub-self
overflow_sub-self c =
    let kept = c.self.invariant.0 in
    let vars = c.self.inside.pairs in
    let at : bytes_at c.args.name.now vars ≡ length c.args.name.now + c.in-Some.before = bytes_when c.args.name.now c.in-Some.before (value_of c.args.name.now vars) (sym c.in-Some.is ∙ c.in_ok-before.ensures.old) in
    omega (arith, kept.sum, at, bytes_at-le c.args.name.now vars)

pub invariant_of-self-2 : goal.invariant_of-self-2
invariant_of-self-2 c =
    let kept = c.self.invariant.0 in
    let vars = c.self.inside.pairs in
    let at : bytes_at c.args.name.now vars ≡ length c.args.name.now + c.in-Some.before = bytes_when c.args.name.now c.in-Some.before (value_of c.args.name.now vars) (sym c.in-Some.is ∙ c.in_ok-before.ensures.old) in
    let fits : bytes_of c.args.self.now - bytes_at c.args.name.now c.args.self.now + (length c.args.name.now + length c.args.value.now) ≤ most_bytes = rw c.if-not-has_room.false at c.has_room.ensures in
    let same : bytes_of vars - bytes_at c.args.name.now vars ≡ bytes_of c.args.self.now - bytes_at c.args.name.now c.args.self.now = ap (λ v. bytes_of v - bytes_at c.args.name.now v) c.self.view_is in
    let bytes = c.self.inside.bytes - c.in-Some.before + length c.args.value.now in
    let is : bytes ≡ bytes_of vars - bytes_at c.args.name.now vars + (length c.args.name.now + length c.args.value.now) = omega (arith, kept.sum, at, bytes_at-le c.args.name.now vars) in
    subst (λ new. IsKept bytes new × IsKnown c.known_after-known.result new) (sym (c.in_ok-before.ensures.ok ∙ ap (λ o. if is_some o then with_var c.args.name.now c.args.value.now vars else vars) c.in-Some.is)) (
      kept_with c.args.name.now c.args.value.now vars kept.ordered bytes is (omega (arith, is, same, fits)),
      known_with c.self.inside.last_ok c.known_after-known.result c.args.name.now vars c.self.invariant.1 c.known_after-known.ensures c.args.value.now,
    )

pub returns-clause-exact : goal.returns-clause-exact
returns-clause-exact c =
    let kept : IsKept c.self.inside.bytes c.args.self.now = subst (IsKept c.self.inside.bytes) c.self.view_is c.self.invariant.0 in
    let fits : bytes_of c.args.self.now - bytes_at c.args.name.now c.args.self.now + (length c.args.name.now + length c.args.value.now) ≤ most_bytes = rw c.if-not-has_room.false at c.has_room.ensures in
    let short : length c.args.value.now ≤ 65536 = omega (arith, c.if-length-gt-MOST_TEXT.false) in
    let vars = c.self.inside.pairs in
    let new : c.write.new.self ≡ with_var c.args.name.now c.args.value.now vars = c.in_ok-before.ensures.ok ∙ ap (λ o. if is_some o then with_var c.args.name.now c.args.value.now vars else vars) c.in-Some.is in
    within_limit c.args.name.now c.args.value.now c.args.self.now kept.ordered short fits ∙ ap Some (sym (new ∙ ap (with_var c.args.name.now c.args.value.now) c.self.view_is))
