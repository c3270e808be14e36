use Rattle.std.proofs.Common.{◌≡◌, true, false, sym, ap, ◌∙◌}
use Rattle.std.specs.Prelude.{MatchBool}
use Rattle.thread_vars.specs.Vars.{value_of, is_same}
use Rattle.thread_vars.proofs.BesideLaws.{at_true, at_false, value-own, value-other}
use Rattle.thread_vars.proofs.vars.Vars.get.Goals as goal

pub returns-then-is_beside : goal.returns-then-is_beside
returns-then-is_beside c =
    let v = c.self.inside in
    let asked = c.args.name.now in
    let told : MatchBool c.is_beside.result ((v.beside ≡ true) × (asked ≡ v.name.items)) (v.beside ≡ true → is_same asked v.name.items ≡ false) = rw c.deref.ensures.value at c.is_beside.ensures in
    let own = at_true c.is_beside.result _ _ c.if-is_beside.true told in
    sym (value-own v.beside v.name.items v.digits v.table asked own.0 own.1) ∙ ap (value_of asked) c.self.view_is

pub returns : goal.returns
returns c =
    let v = c.self.inside in
    let asked = c.args.name.now in
    let told : MatchBool c.is_beside.result ((v.beside ≡ true) × (asked ≡ v.name.items)) (v.beside ≡ true → is_same asked v.name.items ≡ false) = rw c.deref.ensures.value at c.is_beside.ensures in
    c.get.ensures ∙ sym (value-other v.beside v.name.items v.digits v.table asked (at_false c.is_beside.result _ _ c.if-is_beside.false told)) ∙ ap (value_of asked) c.self.view_is
