use Rattle.std.proofs.Common.{◌≡◌, ◌∙◌, length, Some, None, true, false, refl, sym, ap, subst}
use Rattle.std.specs.Prelude.{IfSome, IsSome, IsOk}
use Rattle.std.specs.Option.{option_map}
use Rattle.std.proofs.lemmas.Result.{err_from_is_err_and}
use Rattle.name_map.specs.Names.{FitsIn, value_of, with_var, listed}
use Rattle.name_map.proofs.NameLaws.{with_var-same}
use Rattle.name_map.proofs.EntryLaws.{lookup-listed, listed-with, listed-ordered}
use Rattle.name_map.proofs.map.NameMap.write.Goals as goal

pub returns-in_default-clause-old : goal.returns-in_default-clause-old
returns-in_default-clause-old c =
    ap (option_map length) (c.in_default.ensures.value ∙ lookup-listed c.args.name.now c.self.inside.pairs.entries ∙ ap (value_of c.args.name.now) c.self.view_is)

pub returns-in_default-clause-ordered : goal.returns-in_default-clause-ordered
returns-in_default-clause-ordered c = listed-ordered c.get_mut.follows.lender-at-none.entries

-- the value is written over by itself
pub returns-in_err-write_over-clause-err : goal.returns-in_err-write_over-clause-err
returns-in_err-write_over-clause-err c =
    let p = err_from_is_err_and c.from_residual.result c.from_residual.ensures.1 in
    let es = c.self.inside.pairs.entries in
    let name = c.args.name.now in
    let updates = (c.get_mut.follows.holds c.write_over.new.text).3 (subst IsSome c.in-Some.ensures.value refl) in
    let found : value_of name (listed es) ≡ Some c.in-Some.old.now = sym (c.in-Some.ensures.value ∙ lookup-listed name es) in
    rw p.1
    (listed-with name c.write_over.new.text es (c.get_mut.follows.lender c.write_over.new.text).entries updates.1 updates.3
    ∙ ap (λ w. with_var name w (listed es)) c.in_err-write_over.ensures.err ∙ with_var-same name c.in-Some.old.now (listed es) (listed-ordered es) found ∙ c.self.view_is)

pub returns-in_err-write_over-clause-memory : goal.returns-in_err-write_over-clause-memory
returns-in_err-write_over-clause-memory c =
    let found : Some c.in-Some.old.now ≡ value_of c.args.name.now c.args.self.now = c.in-Some.ensures.value ∙ lookup-listed c.args.name.now c.self.inside.pairs.entries ∙ ap (value_of c.args.name.now) c.self.view_is in
    subst (λ o. IfSome o (λ old. FitsIn (length old) (length c.args.value.now) → IsOk c.from_residual.result)) found (λ fits. let refuted : false ≡ true = c.in_err-write_over.ensures.memory fits in cc)

pub returns-in_err-write_over-clause-ordered : goal.returns-in_err-write_over-clause-ordered
returns-in_err-write_over-clause-ordered c = listed-ordered (c.get_mut.follows.lender c.write_over.new.text).entries

pub returns-clause-old : goal.returns-clause-old
returns-clause-old c =
    let found : Some c.in-Some.old.now ≡ value_of c.args.name.now c.args.self.now = c.in-Some.ensures.value ∙ lookup-listed c.args.name.now c.self.inside.pairs.entries ∙ ap (value_of c.args.name.now) c.self.view_is in
    ap Some (ap length c.bytes-before.ensures) ∙ ap (option_map length) found

pub returns-clause-ok : goal.returns-clause-ok
returns-clause-ok c =
    let es = c.self.inside.pairs.entries in
    let name = c.args.name.now in
    let updates = (c.get_mut.follows.holds c.write_over.new.text).3 (subst IsSome c.in-Some.ensures.value refl) in
    listed-with name c.write_over.new.text es (c.get_mut.follows.lender c.write_over.new.text).entries updates.1 updates.3
    ∙ ap (λ w. with_var name w (listed es)) c.in_ok-write_over.ensures.ok ∙ ap (with_var name c.args.value.now) c.self.view_is

pub returns-clause-ordered : goal.returns-clause-ordered
returns-clause-ordered c = listed-ordered (c.get_mut.follows.lender c.write_over.new.text).entries

pub returns-in_err-write_over-clause-undefined : goal.returns-in_err-write_over-clause-undefined
returns-in_err-write_over-clause-undefined c = λ none.
    let found : Some c.in-Some.old.now ≡ value_of c.args.name.now c.args.self.now = c.in-Some.ensures.value ∙ lookup-listed c.args.name.now c.self.inside.pairs.entries ∙ ap (value_of c.args.name.now) c.self.view_is in
    let refuted : Some c.in-Some.old.now ≡ None = found ∙ none in
    cc
