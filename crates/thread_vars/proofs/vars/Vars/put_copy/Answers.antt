use Rattle.std.proofs.Common.{◌≡◌, true, false, Some, Err, subst}
use Rattle.std.specs.Prelude.{MatchBool, IfSome}
use Rattle.thread_vars.specs.Vars.{value_of, put_var, is_same, Puts}
use Rattle.thread_vars.specs.Beside.{with_beside}
use Rattle.thread_vars.proofs.BesideLaws.{at_true, at_false, put-own, put-other, stands-other, refused-puts, memory-too, refuses}
use Rattle.thread_vars.proofs.vars.Vars.put_copy.Goals as goal

pub invariant_of-self-else-own : goal.invariant_of-self-else-own
invariant_of-self-else-own c =
    let v = c.self.inside in
    let V = with_beside v.beside v.name.items v.digits v.table in
    let asked = c.args.name.now in
    let told : MatchBool c.is_beside-own.result ((v.beside ≡ true) × (asked ≡ v.name.items)) (v.beside ≡ true → is_same asked v.name.items ≡ false) = rw (c.deref.ensures.value) at c.is_beside-own.ensures in
    λ on. ((c.self.invariant on).0, stands-other v.name.items v.digits v.table c.kept.ensures v.ahead v.beside (λ b. (c.self.invariant b).1) asked c.args.value.now c.put_copy-2.new.self (at_false c.is_beside-own.result _ _ c.if-own.false told) c.in-Ok.ensures.exact on)

pub returns-then-own-clause-exact : goal.returns-then-own-clause-exact
returns-then-own-clause-exact c =
    let v = c.self.inside in
    let V = with_beside v.beside v.name.items v.digits v.table in
    let asked = c.args.name.now in
    let told : MatchBool c.is_beside-own.result ((v.beside ≡ true) × (asked ≡ v.name.items)) (v.beside ≡ true → is_same asked v.name.items ≡ false) = rw (c.deref.ensures.value) at c.is_beside-own.ensures in
    let own = at_true c.is_beside-own.result _ _ c.if-own.true told in
    subst (λ vars. put_var asked c.args.value.now vars ≡ Some c.put_copy-2.new.self) c.self.view_is
    (put-own v.name.items v.digits v.table c.kept.ensures v.ahead v.beside (λ b. (c.self.invariant b).1) own.0 asked c.args.value.now own.1 c.put_copy-2.new.self c.in-Ok.ensures.exact)

pub returns-else-own-clause-exact : goal.returns-else-own-clause-exact
returns-else-own-clause-exact c =
    let v = c.self.inside in
    let V = with_beside v.beside v.name.items v.digits v.table in
    let asked = c.args.name.now in
    let told : MatchBool c.is_beside-own.result ((v.beside ≡ true) × (asked ≡ v.name.items)) (v.beside ≡ true → is_same asked v.name.items ≡ false) = rw (c.deref.ensures.value) at c.is_beside-own.ensures in
    subst (λ vars. put_var asked c.args.value.now vars ≡ Some (with_beside v.beside v.name.items v.digits c.put_copy-2.new.self)) c.self.view_is
    (put-other v.name.items v.digits v.table c.kept.ensures v.ahead v.beside (λ b. (c.self.invariant b).1) asked c.args.value.now c.put_copy-2.new.self (at_false c.is_beside-own.result _ _ c.if-own.false told) c.kept-in-Ok.ensures.ordered c.in-Ok.ensures.exact)

pub returns-in-Err-clause-exact : goal.returns-in-Err-clause-exact
returns-in-Err-clause-exact c =
    let v = c.self.inside in
    let V = with_beside v.beside v.name.items v.digits v.table in
    let asked = c.args.name.now in
    let told : MatchBool c.is_beside-own.result ((v.beside ≡ true) × (asked ≡ v.name.items)) (v.beside ≡ true → is_same asked v.name.items ≡ false) = rw (c.deref.ensures.value) at c.is_beside-own.ensures in
    subst (λ vars. Puts (put_var asked c.args.value.now vars) vars (with_beside v.beside v.name.items v.digits c.put_copy-2.new.self) (Err c.in-Err.error)) c.self.view_is
    (refused-puts v.name.items v.digits v.table c.kept.ensures v.ahead v.beside c.is_beside-own.result (λ b. (c.self.invariant b).1) asked c.args.value.now told c.put_copy-2.new.self c.in-Err.error c.in-Err.ensures.exact)

pub returns-in-Err-clause-memory : goal.returns-in-Err-clause-memory
returns-in-Err-clause-memory c =
    let v = c.self.inside in
    let V = with_beside v.beside v.name.items v.digits v.table in
    let asked = c.args.name.now in
    let told : MatchBool c.is_beside-own.result ((v.beside ≡ true) × (asked ≡ v.name.items)) (v.beside ≡ true → is_same asked v.name.items ≡ false) = rw (c.deref.ensures.value) at c.is_beside-own.ensures in
    subst (λ vars. IfSome (value_of asked vars) (refuses c.args.value.now c.in-Err.error)) c.self.view_is
    (memory-too v.name.items v.digits v.table c.kept.ensures v.ahead v.beside c.is_beside-own.result (λ b. (c.self.invariant b).1) asked told c.args.value.now c.in-Err.error c.in-Err.ensures.memory)
