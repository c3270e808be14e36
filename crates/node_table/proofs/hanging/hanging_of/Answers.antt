use Rattle.std.proofs.Common.{◌≡◌, length, arith, ap}
use Rattle.node_table.proofs.PackageLaws.{hangs_step, hangs_not, all_hung}
use Rattle.node_table.proofs.hanging.hanging_of.Goals as goal
use Rattle.node_table.proofs.hanging.hanging_of.Goals.{then-hangs+in_ok-add_at, else-hangs}

pub elements-preserved : goal.elements-preserved
elements-preserved c =
    elim c.if-hangs.branch [
      | then-hangs+in_ok-add_at w ↦ hangs_step c.args.plan.now.elements c.elements-elements.result.now c.args.class c.elements.number c.index-elements-number.result c.hangs.result
          c.elements.lists.items c.if-hangs.lists.items w.add_at.new.lists.items c.elements-elements.ensures.elements c.elements-test.true c.index-elements-number.is c.hangs.ensures w.if-hangs.true
          (ap (λ v. v.items) w.lists-is) w.in_ok-add_at.ensures c.elements.invariant
      | else-hangs w ↦ hangs_not c.args.plan.now.elements c.elements-elements.result.now c.args.class c.elements.number c.index-elements-number.result c.hangs.result
          c.elements.lists.items c.if-hangs.lists.items c.elements-elements.ensures.elements c.elements-test.true c.index-elements-number.is c.hangs.ensures w.if-hangs.false
          (ap (λ v. v.items) w.lists-is) c.elements.invariant
    ]

pub returns : goal.returns
returns c =
    let at_end : c.elements.number ≡ length c.args.plan.now.elements = omega (arith, ap length c.elements-elements.ensures.elements) in
    all_hung c.args.plan.now.elements c.args.class c.elements.number c.elements.lists.items at_end c.elements.invariant
