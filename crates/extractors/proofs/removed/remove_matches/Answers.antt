use Rattle.std.proofs.Common.{◌≡◌, ◌+◌, ◌∙◌, ap, arith}
use Rattle.std.proofs.lemmas.Result.{err_from_is_err_and}
use Rattle.thread_vars.specs.Vars.{without_var}
use Rattle.var_changes.proofs.ChangeLaws.{standing-more, standing-stopped}
use Rattle.extractors.specs.Extraction.{removes_groups, removes_matches}
use Rattle.extractors.proofs.RemovedLaws.{from_match, matches-first, matches-next, matches-over}
use Rattle.extractors.proofs.removed.remove_matches.Goals as goal

pub matches-init : goal.matches-init
matches-init c =
    let all : c.from-place-end.result ≡ c.args.count = omega (arith, c.from-place-end.ensures) in
    rw all (matches-first c.args.name.now c.args.groups c.args.count c.args.vars.now)

pub returns-in_err-remove_groups : goal.returns-in_err-remove_groups
returns-in_err-remove_groups c =
    let p = err_from_is_err_and c.from_residual-in_err-remove_groups.result c.from_residual-in_err-remove_groups.ensures.1 in
    rw (p.1, p.2) (record {
      exact = standing-stopped (removes_matches c.args.name.now c.args.groups c.args.count) (removes_groups c.bytes-in-matches.result.now c.args.groups)
          (from_match c.args.name.now c.args.groups (c.matches.place + 1) c.from-place-end.result) _ c.remove.new.self c.remove_groups.new.vars c.in_err-remove_groups.field-0.0
          (matches-next _ c.args.name.now c.args.groups c.matches.place c.from-place-end.result c.bytes-in-matches.result.now _ c.matches.vars c.remove.new.self c.matches-test.true
          (c.bytes-in-matches.ensures ∙ c.in_ok-name.ensures) c.matches.invariant
          (c.remove.ensures.exact ∙ ap (λ n. without_var n c.matches.vars) (cc (c.bytes.ensures, c.bytes-in-matches.ensures))))
          c.in_err-remove_groups.ensures.exact;
    })

pub matches-preserved : goal.matches-preserved
matches-preserved c =
    standing-more (removes_matches c.args.name.now c.args.groups c.args.count) (removes_groups c.bytes-in-matches.result.now c.args.groups)
    (from_match c.args.name.now c.args.groups (c.matches.place + 1) c.from-place-end.result) _ c.remove.new.self c.remove_groups.new.vars
    (matches-next _ c.args.name.now c.args.groups c.matches.place c.from-place-end.result c.bytes-in-matches.result.now _ c.matches.vars c.remove.new.self c.matches-test.true
    (c.bytes-in-matches.ensures ∙ c.in_ok-name.ensures) c.matches.invariant
    (c.remove.ensures.exact ∙ ap (λ n. without_var n c.matches.vars) (cc (c.bytes.ensures, c.bytes-in-matches.ensures))))
    c.in_ok-remove_groups.ensures.exact

pub returns : goal.returns
returns c = record {
  exact = matches-over _ c.args.name.now c.args.groups c.matches.place c.from-place-end.result c.args.vars.now c.matches.vars c.matches-test.false c.matches.invariant;
}
