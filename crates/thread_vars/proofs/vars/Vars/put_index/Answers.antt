use Rattle.std.proofs.Common.{◌≡◌, ◌∙◌, ℕ, List, true, false, Some, decimal, length, refl, subst, sym, ap}
use Rattle.std.specs.Prelude.{Result, Ok, Err, OnOk, is_ok, nat_eq}
use lib.Pointwise.{pointwise}
use Rattle.std.proofs.lemmas.Bool.Decides.{Decides-eqb}
use Rattle.std.proofs.lemmas.Slice.Eq.{slice_eq-Decides}
use Rattle.thread_vars.specs.Vars.{Variables, put_var, index_name}
use Rattle.thread_vars.specs.Beside.{with_beside, IsBeside}
use Rattle.thread_vars.proofs.BesideLaws.{again, set_beside, set_seen}
use Rattle.thread_vars.proofs.vars.Vars.put_index.Goals as goal

on_ok : {X E P : Type 0} (r : Result X E) → is_ok r ≡ true → OnOk r P → P
on_ok (Ok x) is p = p
on_ok (Err e) is p = cc

same : (a b : List ℕ) → pointwise nat_eq a b ≡ true → a ≡ b
same a b is = (slice_eq-Decides Decides-eqb a b (pointwise nat_eq a b) refl).0 is

pub returns-then-eq : goal.returns-then-eq
returns-then-eq c =
    let v = c.self.inside in
    let V : Variables = with_beside v.beside v.name.items v.digits v.table in
    let whole = index_name c.args.element.now in
    let value : c.as_bytes-value.result.now ≡ decimal c.args.index = c.as_bytes-value.ensures.value ∙ c.format.ensures.text in
    let element : v.element.items ≡ c.args.element.now = sym c.as_slice.ensures.value ∙ same c.as_slice.result.now c.args.element.now (sym c.eq.ensures ∙ c.if-eq.true) in
    let named : v.name.items ≡ whole = (c.self.invariant c.if-self.true).0 ∙ ap index_name element in
    let long : length c.as_bytes-value.result.now ≡ length v.digits = c.if-value-bytes.true ∙ ap length c.bytes.ensures in
    let put : put_var whole c.as_bytes-value.result.now V ≡ Some (with_beside v.beside v.name.items c.as_bytes-value.result.now v.table) =
    again v.name.items v.digits v.table c.kept.ensures v.ahead v.beside (λ b. (c.self.invariant b).1) c.if-self.true whole c.as_bytes-value.result.now named long in
    let over : c.write_over.new.text ≡ c.as_bytes-value.result.now = c.in_ok-write_over.ensures.ok in
    subst (λ vars. put_var whole (decimal c.args.index) vars ≡ Some (with_beside v.beside v.name.items c.write_over.new.text v.table)) c.self.view_is
    (subst (λ w. put_var whole w V ≡ Some (with_beside v.beside v.name.items c.write_over.new.text v.table)) value
    (subst (λ w. put_var whole c.as_bytes-value.result.now V ≡ Some (with_beside v.beside v.name.items w v.table)) (sym over) put))

pub invariant_of-self-then-is_ok : goal.invariant_of-self-then-is_ok
invariant_of-self-then-is_ok c = λ _.
    let over : c.write_over-2.new.text ≡ c.as_bytes-value.result.now = on_ok c.write_over-2.result (sym c.is_ok.ensures.value ∙ c.if-is_ok.true) c.write_over-2.ensures.ok in
    let put : put_var c.name_index.new.name.items c.as_bytes-value.result.now c.settle.new.table ≡ Some c.put_copy.new.self = subst (λ n. put_var n c.as_bytes-value.result.now c.settle.new.table ≡ Some c.put_copy.new.self) c.deref-2.ensures.value c.in_ok-put_copy.ensures.exact in (
      c.in_ok-name_index.ensures.name ∙ ap index_name (sym c.in_ok-name_index.ensures.own),
      subst (λ w. IsBeside false c.name_index.new.name.items w c.put_copy.new.self) (sym over) (set_beside c.name_index.new.name.items c.as_bytes-value.result.now c.settle.new.table c.put_copy.new.self put),
    )

pub returns-then-is_ok : goal.returns-then-is_ok
returns-then-is_ok c =
    let v = c.self.inside in
    let whole = index_name c.args.element.now in
    let value : c.as_bytes-value.result.now ≡ decimal c.args.index = c.as_bytes-value.ensures.value ∙ c.format.ensures.text in
    let over : c.write_over-2.new.text ≡ c.as_bytes-value.result.now = on_ok c.write_over-2.result (sym c.is_ok.ensures.value ∙ c.if-is_ok.true) c.write_over-2.ensures.ok in
    let put : put_var c.name_index.new.name.items c.as_bytes-value.result.now c.settle.new.table ≡ Some c.put_copy.new.self = subst (λ n. put_var n c.as_bytes-value.result.now c.settle.new.table ≡ Some c.put_copy.new.self) c.deref-2.ensures.value c.in_ok-put_copy.ensures.exact in
    let seen : put_var c.name_index.new.name.items c.as_bytes-value.result.now c.settle.new.table ≡ Some (with_beside true c.name_index.new.name.items c.as_bytes-value.result.now c.put_copy.new.self) =
    set_seen c.name_index.new.name.items c.as_bytes-value.result.now c.settle.new.table c.put_copy.new.self c.kept-2.ensures put in
    let before : c.settle.new.table ≡ c.args.self.now = c.in_ok-settle.ensures.ok ∙ ap (λ n. with_beside v.beside n v.digits v.table) c.deref.ensures.value ∙ c.self.view_is in
    subst (λ vars. put_var whole (decimal c.args.index) vars ≡ Some (with_beside true c.name_index.new.name.items c.write_over-2.new.text c.put_copy.new.self)) before
    (subst (λ n. put_var n (decimal c.args.index) c.settle.new.table ≡ Some (with_beside true c.name_index.new.name.items c.write_over-2.new.text c.put_copy.new.self)) c.in_ok-name_index.ensures.name
    (subst (λ w. put_var c.name_index.new.name.items w c.settle.new.table ≡ Some (with_beside true c.name_index.new.name.items c.write_over-2.new.text c.put_copy.new.self)) value
    (subst (λ w. put_var c.name_index.new.name.items c.as_bytes-value.result.now c.settle.new.table ≡ Some (with_beside true c.name_index.new.name.items w c.put_copy.new.self)) (sym over) seen)))
