use Rattle.std.proofs.Common.{◌≡◌, ◌<◌, length, arith, ap, ◌∙◌}
use Rattle.scope_resolver.proofs.PlanLaws.{hanging_step, not_hanging_step, hanging_end}
use Rattle.scope_resolver.proofs.levels.add_hanging.Goals as goal
use Rattle.scope_resolver.proofs.levels.add_hanging.Goals.{then-hangs_on+in_ok-push, else-hangs_on}

pub elements-preserved : goal.elements-preserved
elements-preserved c =
    let there : c.elements.number < length c.args.elements.now = omega arith in
    elim c.if-hangs_on.branch [
      | then-hangs_on+in_ok-push w ↦ hanging_step c.args.elements.now c.args.level c.elements.number c.index-elements-number.result c.hangs_on.result
          c.args.found.now.items c.elements.found.items c.if-hangs_on.found.items there c.index-elements-number.is c.hangs_on.ensures w.if-hangs_on.true
          (ap (λ f. f.items) w.found-is ∙ w.in_ok-push.ensures.items) c.elements.invariant
      | else-hangs_on w ↦ ap (λ f. f.items) w.found-is ∙ not_hanging_step c.args.elements.now c.args.level c.elements.number c.index-elements-number.result c.hangs_on.result
          c.args.found.now.items c.elements.found.items there c.index-elements-number.is c.hangs_on.ensures w.if-hangs_on.false c.elements.invariant
    ]

pub returns : goal.returns
returns c =
    let at_end : c.elements.number ≡ length c.args.elements.now = omega arith in
    hanging_end c.args.elements.now c.args.level c.elements.number c.args.found.now.items c.elements.found.items at_end c.elements.invariant
