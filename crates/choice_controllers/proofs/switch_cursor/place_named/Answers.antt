use Rattle.std.proofs.Common.{sym, ◌∙◌, arith}
use Rattle.choice_controllers.specs.SwitchController.{is_name}
use Rattle.cursor_steps.specs.RunningChildren.{is_run_at}
use Rattle.choice_controllers.specs.SwitchController.{name_at}
use Rattle.choice_controllers.proofs.NameLaws.{found-here, found-more}
use Rattle.choice_controllers.proofs.switch_cursor.place_named.Goals as goal

pub returns-then-is_name : goal.returns-then-is_name
returns-then-is_name c =
    let counts = rw c.as_slice-child-items.ensures at (sym c.is_run_at.ensures ∙ c.if-not-is_run_at.false) in
    let passes = rw (c.name_at.ensures, c.as_slice-child-items.ensures) at (sym c.is_name.ensures ∙ c.if-is_name.true) in
    let within = rw c.as_slice-child-items.ensures at c.loop-child-test.true in
    sym (found-here (is_name c.args.any_case c.args.wanted.now) (is_run_at c.args.plan.now.elements) (name_at c.args.plan.now.elements)
    c.loop-child.place c.loop-child.child-index c.args.element.now.children within counts (omega arith) passes) ∙ c.loop-child.invariant.same

pub loop-child-preserved : goal.loop-child-preserved
loop-child-preserved c =
    let counts = rw c.as_slice-child-items.ensures at (sym c.is_run_at.ensures ∙ c.if-not-is_run_at.false) in
    let fails = rw (c.name_at.ensures, c.as_slice-child-items.ensures) at (sym c.is_name.ensures ∙ c.if-is_name.false) in
    let within = rw c.as_slice-child-items.ensures at c.loop-child-test.true in
    record {
      same = found-more (is_name c.args.any_case c.args.wanted.now) (is_run_at c.args.plan.now.elements) (name_at c.args.plan.now.elements)
          c.loop-child.place c.loop-child.child-index c.args.element.now.children within counts (omega arith) fails ∙ c.loop-child.invariant.same;
      room = omega arith;
    }
