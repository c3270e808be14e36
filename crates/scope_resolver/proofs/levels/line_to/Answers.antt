use Rattle.std.proofs.Common.{◌<◌, ◌≤◌, arith}
use Rattle.scope_resolver.specs.Scoping.{line_to}
use Rattle.scope_resolver.proofs.PlanLaws.{up_step, up_end}
use Rattle.scope_resolver.proofs.levels.line_to.Goals as goal

pub up-preserved : goal.up-preserved
up-preserved c =
    let below : 0 < c.up.here = omega arith in
    up_step c.args.plan.now c.elements-elements.ensures.plan c.up.here c.parent_in-here.result c.up.line.items c.push.new.self.items
    (line_to c.args.plan.now.elements c.args.number) below c.parent_in-here.ensures.parent c.in_ok-push.ensures.items c.up.invariant

pub returns : goal.returns
returns c =
    let at_root : c.up.here ≤ 0 = omega arith in
    record {
      line = up_end c.args.plan.now c.elements-elements.ensures.plan c.up.here c.up.line.items c.push-2.new.self.items
          (line_to c.args.plan.now.elements c.args.number) c.reverse.new.self.items at_root c.in_ok-push-2.ensures.items c.reverse.ensures.items c.up.invariant;
    }
