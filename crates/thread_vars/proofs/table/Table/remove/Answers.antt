use Rattle.std.proofs.Common.{◌≡◌, ◌-◌, ap, ◌∙◌, subst, arith, sym, refl}
use Rattle.thread_vars.specs.Vars.{IsKept, without_var, value_of, bytes_at, bytes_found}
use Rattle.thread_vars.specs.Beside.{IsKnown}
use Rattle.name_map.proofs.NameLaws.{value_of-without_var}
use Rattle.thread_vars.proofs.VarLaws.{bytes_at-le, kept_without, known_without}
use Rattle.thread_vars.proofs.table.Table.remove.Goals as goal

pub overflow_sub-self : goal.overflow_sub-self
overflow_sub-self c =
    let at : c.bytes_found.result ≡ bytes_at c.args.name.now c.self.inside.pairs = c.bytes_found.ensures c.args.name.now refl ∙ ap (bytes_found c.args.name.now) c.remove-old.ensures.old in
    omega (arith, c.self.invariant.0.sum, at, bytes_at-le c.args.name.now c.self.inside.pairs)

pub invariant_of-self : goal.invariant_of-self
invariant_of-self c =
    let vars = c.self.inside.pairs in
    let kept = c.self.invariant.0 in
    let at : bytes_at c.args.name.now vars ≡ c.bytes_found.result = sym (c.bytes_found.ensures c.args.name.now refl ∙ ap (bytes_found c.args.name.now) c.remove-old.ensures.old) in
    subst (λ new. IsKept (c.self.inside.bytes - c.bytes_found.result) new × IsKnown c.known_after-self-inside.result new) (sym c.remove-old.ensures.removed) (
      subst (λ n. IsKept (c.self.inside.bytes - n) (without_var c.args.name.now vars)) at (kept_without c.args.name.now vars c.self.inside.bytes kept),
      known_without c.self.inside.last_ok c.known_after-self-inside.result c.args.name.now vars c.self.invariant.1 kept.ordered c.known_after-self-inside.ensures,
    )

pub returns-clause-values : goal.returns-clause-values
returns-clause-values c =
    let kept : IsKept c.self.inside.bytes c.args.self.now = subst (IsKept c.self.inside.bytes) c.self.view_is c.self.invariant.0 in
    λ other. ap (value_of other) (c.remove-old.ensures.removed ∙ ap (without_var c.args.name.now) c.self.view_is) ∙ value_of-without_var other c.args.name.now c.args.self.now kept.ordered
