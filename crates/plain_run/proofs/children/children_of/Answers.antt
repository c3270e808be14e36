use Rattle.std.proofs.Common.{◌∙◌, sym, ap}
use Rattle.std.proofs.Math.ListN.{take}
use Rattle.cursor_steps.specs.RunningChildren.{is_run_at}
use Rattle.plain_run.proofs.ChildLaws.{child-kept, child-passed, children-kept}
use Rattle.plain_run.proofs.children.children_of.Goals.{then-is_run_at+in_ok-push, else-is_run_at}
use Rattle.plain_run.proofs.children.children_of.Goals as goal

pub loop-child-init : goal.loop-child-init
loop-child-init c = c.new-children.ensures.items

pub loop-child-preserved : goal.loop-child-preserved
loop-child-preserved c =
    let runs = is_run_at c.args.plan.now.elements in
    let numbers = c.as_slice-child-items in
    let l = c.loop-child in
    elim c.if-is_run_at.branch [
      | then-is_run_at+in_ok-push w ↦
          child-kept runs c.args.element.now.children numbers.result.now l.children.items l.child-index numbers.ensures l.invariant c.if-is_run_at.children.items c.loop-child-test.true
          (sym w.if-is_run_at.ensures) (ap (λ v. v.items) w.children-is ∙ w.in_ok-push.ensures.items)
      | else-is_run_at w ↦
          child-passed runs c.args.element.now.children numbers.result.now l.children.items l.child-index numbers.ensures l.invariant c.if-is_run_at.children.items c.loop-child-test.true
          (sym w.if-is_run_at.ensures) (ap (λ v. v.items) w.children-is)
    ]

pub returns : goal.returns
returns c =
    let numbers = c.as_slice-child-items in
    let l = c.loop-child in
    c.truncate.ensures.items
    ∙ ap (take 65535) (children-kept (is_run_at c.args.plan.now.elements) c.args.element.now.children numbers.result.now l.children.items l.child-index numbers.ensures l.invariant c.loop-child-test.false)
