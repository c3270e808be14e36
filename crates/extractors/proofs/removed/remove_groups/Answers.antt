use Rattle.std.proofs.Common.{◌∙◌, ap, arith}
use Rattle.thread_vars.specs.Vars.{without_var}
use Rattle.extractors.specs.Extraction.{removes_groups}
use Rattle.extractors.proofs.RemovedLaws.{groups-first, groups-more, groups-over}
use Rattle.extractors.proofs.removed.remove_groups.Goals as goal

pub groups-init : goal.groups-init
groups-init c =
    groups-first c.args.name.now c.args.groups c.in-Some.groups c.args.vars.now c.remove.new.self c.in-Some.is
    (c.remove.ensures.exact ∙ ap (λ n. without_var n c.args.vars.now) (c.bytes.ensures ∙ c.in_ok-count.ensures))

pub groups-preserved : goal.groups-preserved
groups-preserved c =
    groups-more (removes_groups c.args.name.now c.args.groups) c.args.name.now c.groups.number c.in-Some.groups c.args.vars.now c.groups.vars c.remove-in-groups.new.self c.groups-test.true c.groups.invariant
    (c.remove-in-groups.ensures.exact ∙ ap (λ n. without_var n c.groups.vars) (c.bytes-in-groups.ensures ∙ c.in_ok-group.ensures))

pub returns : goal.returns
returns c = record {
  exact = groups-over (removes_groups c.args.name.now c.args.groups) c.args.name.now c.groups.number c.in-Some.groups c.args.vars.now c.groups.vars c.remove-2.new.self (omega (arith, c.groups-test.false)) c.groups.invariant
      (c.remove-2.ensures.exact ∙ ap (λ n. without_var n c.groups.vars) (c.bytes-2.ensures ∙ c.in_ok-group-2.ensures));
}
