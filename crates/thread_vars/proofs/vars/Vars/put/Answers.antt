use Rattle.std.proofs.Common.{◌≡◌, ◌∙◌, true, false, Some, Err, ap, subst, sym}
use Rattle.std.specs.Prelude.{MatchBool}
use Rattle.thread_vars.specs.Vars.{value_of, put_var, is_same, Puts}
use Rattle.thread_vars.specs.Beside.{with_beside}
use Rattle.name_map.proofs.NameLaws.{value_of-with_var}
use Rattle.thread_vars.proofs.BesideLaws.{at_true, at_false, put-own, put-other, stands-other, refused-puts, put_is, none-too}
use Rattle.thread_vars.proofs.vars.Vars.put.Goals as goal

pub invariant_of-self-else-own : goal.invariant_of-self-else-own
invariant_of-self-else-own c =
    let v = c.self.inside in
    let V = with_beside v.beside v.name.items v.digits v.table in
    let asked = c.args.name in
    let told : MatchBool c.is_beside-own.result ((v.beside ≡ true) × (asked ≡ v.name.items)) (v.beside ≡ true → is_same asked v.name.items ≡ false) = rw (c.bytes.ensures, c.deref.ensures.value) at c.is_beside-own.ensures in
    λ on. ((c.self.invariant on).0, stands-other v.name.items v.digits v.table c.kept.ensures v.ahead v.beside (λ b. (c.self.invariant b).1) asked c.args.value c.put-2.new.self (at_false c.is_beside-own.result _ _ c.if-own.false told) c.in-Ok.ensures.exact on)

pub returns-then-own-clause-exact : goal.returns-then-own-clause-exact
returns-then-own-clause-exact c =
    let v = c.self.inside in
    let V = with_beside v.beside v.name.items v.digits v.table in
    let asked = c.args.name in
    let told : MatchBool c.is_beside-own.result ((v.beside ≡ true) × (asked ≡ v.name.items)) (v.beside ≡ true → is_same asked v.name.items ≡ false) = rw (c.bytes.ensures, c.deref.ensures.value) at c.is_beside-own.ensures in
    let own = at_true c.is_beside-own.result _ _ c.if-own.true told in
    subst (λ vars. put_var asked c.args.value vars ≡ Some c.put-2.new.self) c.self.view_is
    (put-own v.name.items v.digits v.table c.kept.ensures v.ahead v.beside (λ b. (c.self.invariant b).1) own.0 asked c.args.value own.1 c.put-2.new.self c.in-Ok.ensures.exact)

pub returns-else-own-clause-exact : goal.returns-else-own-clause-exact
returns-else-own-clause-exact c =
    let v = c.self.inside in
    let V = with_beside v.beside v.name.items v.digits v.table in
    let asked = c.args.name in
    let told : MatchBool c.is_beside-own.result ((v.beside ≡ true) × (asked ≡ v.name.items)) (v.beside ≡ true → is_same asked v.name.items ≡ false) = rw (c.bytes.ensures, c.deref.ensures.value) at c.is_beside-own.ensures in
    subst (λ vars. put_var asked c.args.value vars ≡ Some (with_beside v.beside v.name.items v.digits c.put-2.new.self)) c.self.view_is
    (put-other v.name.items v.digits v.table c.kept.ensures v.ahead v.beside (λ b. (c.self.invariant b).1) asked c.args.value c.put-2.new.self (at_false c.is_beside-own.result _ _ c.if-own.false told) c.kept-in-Ok.ensures.ordered c.in-Ok.ensures.exact)

pub returns-in-Err-clause-exact : goal.returns-in-Err-clause-exact
returns-in-Err-clause-exact c =
    let v = c.self.inside in
    let V = with_beside v.beside v.name.items v.digits v.table in
    let asked = c.args.name in
    let told : MatchBool c.is_beside-own.result ((v.beside ≡ true) × (asked ≡ v.name.items)) (v.beside ≡ true → is_same asked v.name.items ≡ false) = rw (c.bytes.ensures, c.deref.ensures.value) at c.is_beside-own.ensures in
    subst (λ vars. Puts (put_var asked c.args.value vars) vars (with_beside v.beside v.name.items v.digits c.put-2.new.self) (Err c.in-Err.error)) c.self.view_is
    (refused-puts v.name.items v.digits v.table c.kept.ensures v.ahead v.beside c.is_beside-own.result (λ b. (c.self.invariant b).1) asked c.args.value told c.put-2.new.self c.in-Err.error c.in-Err.ensures.exact)

pub returns-then-own-clause-values : goal.returns-then-own-clause-values
returns-then-own-clause-values c = λ other.
    ap (value_of other) (put_is c.args.name c.args.value c.args.self.now c.put-2.new.self (returns-then-own-clause-exact c)) ∙ value_of-with_var other c.args.name c.args.value c.args.self.now

pub returns-else-own-clause-values : goal.returns-else-own-clause-values
returns-else-own-clause-values c = λ other.
    let v = c.self.inside in
    ap (value_of other) (put_is c.args.name c.args.value c.args.self.now (with_beside v.beside v.name.items v.digits c.put-2.new.self) (returns-else-own-clause-exact c)) ∙ value_of-with_var other c.args.name c.args.value c.args.self.now

pub returns-in-Err-clause-replaces : goal.returns-in-Err-clause-replaces
returns-in-Err-clause-replaces c = λ is.
    let v = c.self.inside in
    let V = with_beside v.beside v.name.items v.digits v.table in
    let asked = c.args.name in
    let told : MatchBool c.is_beside-own.result ((v.beside ≡ true) × (asked ≡ v.name.items)) (v.beside ≡ true → is_same asked v.name.items ≡ false) = rw (c.bytes.ensures, c.deref.ensures.value) at c.is_beside-own.ensures in
    ap (value_of asked) (sym c.self.view_is)
    ∙ none-too v.name.items v.digits v.table c.kept.ensures v.ahead v.beside c.is_beside-own.result (λ b. (c.self.invariant b).1) asked told (c.in-Err.ensures.replaces is)
