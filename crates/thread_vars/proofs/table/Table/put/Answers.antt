use Rattle.std.proofs.Common.{◌≡◌, ◌≤◌, ◌<◌, ◌-◌, ◌+◌, length, refl, sym, ap, ◌∙◌, subst, arith, Some, false}
use Rattle.std.specs.Prelude.{IfSome}
use Rattle.thread_vars.specs.Vars.{IsKept, bytes_of, bytes_at, bytes_found, most_bytes, is_same, with_var, value_of, last_sample_ok}
use Rattle.thread_vars.specs.Beside.{IsKnown}
use Rattle.name_map.proofs.NameLaws.{value_of-with_var}
use Rattle.thread_vars.proofs.VarLaws.{bytes_at-le, past_limit, within_limit, kept_with, known_with}
use Rattle.thread_vars.proofs.table.Table.put.Goals as goal

pub returns-then-not-has_room-clause-exact : goal.returns-then-not-has_room-clause-exact
returns-then-not-has_room-clause-exact c =
    let kept : IsKept c.self.inside.bytes c.args.self.now = subst (IsKept c.self.inside.bytes) c.self.view_is c.self.invariant.0 in
    let past : most_bytes < bytes_of c.args.self.now - bytes_at c.bytes.result.now c.args.self.now + (length c.bytes-named.result.now + length c.bytes-length.result.now) = rw c.if-not-has_room.true at c.has_room.ensures in (
      past_limit c.args.name c.args.value c.args.self.now kept.ordered
          (omega (arith, past, ap (λ n. bytes_at n c.args.self.now) c.bytes.ensures, ap length c.bytes-named.ensures, ap length c.bytes-length.ensures)),
      refl,
    )

pub overflow_sub-self : goal.overflow_sub-self
overflow_sub-self c =
    let kept : IsKept c.self.inside.bytes c.args.self.now = subst (IsKept c.self.inside.bytes) c.self.view_is c.self.invariant.0 in
    let at : c.bytes_found.result ≡ bytes_at c.args.name c.args.self.now =
    c.bytes_found.ensures c.args.name (sym (ap length c.bytes-named.ensures)) ∙ ap (bytes_found c.args.name) (c.in_ok-old.ensures.old ∙ ap (value_of c.args.name) c.self.view_is) in
    omega (arith, kept.sum, at, bytes_at-le c.args.name c.args.self.now)

pub invariant_of-self-2 : goal.invariant_of-self-2
invariant_of-self-2 c =
    let kept : IsKept c.self.inside.bytes c.args.self.now = subst (IsKept c.self.inside.bytes) c.self.view_is c.self.invariant.0 in
    let known : IsKnown c.self.inside.last_ok c.args.self.now = subst (IsKnown c.self.inside.last_ok) c.self.view_is c.self.invariant.1 in
    let at : c.bytes_found.result ≡ bytes_at c.args.name c.args.self.now =
    c.bytes_found.ensures c.args.name (sym (ap length c.bytes-named.ensures)) ∙ ap (bytes_found c.args.name) (c.in_ok-old.ensures.old ∙ ap (value_of c.args.name) c.self.view_is) in
    let fits : bytes_of c.args.self.now - bytes_at c.bytes.result.now c.args.self.now + (length c.bytes-named.result.now + length c.bytes-length.result.now) ≤ most_bytes = rw c.if-not-has_room.false at c.has_room.ensures in
    let bytes = c.self.inside.bytes - c.bytes_found.result + (length c.bytes-named.result.now + length c.bytes-length.result.now) in
    let is : bytes ≡ bytes_of c.args.self.now - bytes_at c.args.name c.args.self.now + (length c.args.name + length c.args.value) =
    omega (arith, kept.sum, at, ap length c.bytes-named.ensures, ap length c.bytes-length.ensures) in
    let new : c.insert.new.self ≡ with_var c.args.name c.args.value c.args.self.now = c.in_ok-old.ensures.ok ∙ ap (with_var c.args.name c.args.value) c.self.view_is in
    let stays = subst (λ n. IfSome c.known_after-known.result (λ ok. (c.self.inside.last_ok ≡ Some ok) × (is_same last_sample_ok n ≡ false))) c.bytes-2.ensures c.known_after-known.ensures in
    subst (λ vars. IsKept bytes vars × IsKnown c.known_after-known.result vars) (sym new) (
      kept_with c.args.name c.args.value c.args.self.now kept.ordered bytes is (omega (arith, is, fits, ap (λ n. bytes_at n c.args.self.now) c.bytes.ensures, ap length c.bytes-named.ensures, ap length c.bytes-length.ensures)),
      known_with c.self.inside.last_ok c.known_after-known.result c.args.name c.args.self.now known stays c.args.value,
    )

pub returns-clause-exact : goal.returns-clause-exact
returns-clause-exact c =
    let kept : IsKept c.self.inside.bytes c.args.self.now = subst (IsKept c.self.inside.bytes) c.self.view_is c.self.invariant.0 in
    let fits : bytes_of c.args.self.now - bytes_at c.bytes.result.now c.args.self.now + (length c.bytes-named.result.now + length c.bytes-length.result.now) ≤ most_bytes = rw c.if-not-has_room.false at c.has_room.ensures in
    let short : length c.args.value ≤ 65536 = omega (arith, c.if-length-gt-MOST_TEXT.false, ap length c.bytes-length.ensures) in
    let new : c.insert.new.self ≡ with_var c.args.name c.args.value c.args.self.now = c.in_ok-old.ensures.ok ∙ ap (with_var c.args.name c.args.value) c.self.view_is in
    within_limit c.args.name c.args.value c.args.self.now kept.ordered short (omega (arith, fits, ap (λ n. bytes_at n c.args.self.now) c.bytes.ensures, ap length c.bytes-named.ensures, ap length c.bytes-length.ensures))
    ∙ ap Some (sym new)

pub returns-clause-values : goal.returns-clause-values
returns-clause-values c = λ other.
    ap (value_of other) (c.in_ok-old.ensures.ok ∙ ap (with_var c.args.name c.args.value) c.self.view_is) ∙ value_of-with_var other c.args.name c.args.value c.args.self.now
