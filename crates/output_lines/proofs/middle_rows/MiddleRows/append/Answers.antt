use Rattle.std.proofs.Common.{◌≡◌, sym, subst, rules}
use Rattle.output_lines.specs.Bulk.{LinesOf, IsMiddle}
use Rattle.output_lines.proofs.Middles.{told_middle}
use Rattle.output_lines.proofs.middle_rows.MiddleRows.append.Goals.{then-not-tells_of+in_ok-write_middle, else-not-tells_of}
use Rattle.output_lines.proofs.middle_rows.MiddleRows.append.Goals as goal

pub returns-clause-ok : goal.returns-clause-ok
returns-clause-ok c =
    let lines = c.args.self.now in
    let s = c.args.sample.now in
    let is : IsMiddle lines.plan lines.thread s c.deref.result.now =
    elim c.if-not-tells_of.branch [
      | then-not-tells_of+in_ok-write_middle w ↦ search rules
      | else-not-tells_of w ↦
          let kept : c.deref.result.now ≡ c.self.inside.middle.items = search rules in
          subst (λ m. IsMiddle lines.plan lines.thread s m) (sym kept)
          (subst (λ (l : LinesOf). IsMiddle l.plan l.thread s c.self.inside.middle.items) c.self.view_is
          (told_middle c.self.inside.plan.now c.self.inside.thread s c.self.inside.middle.items c.self.inside.told c.self.invariant.2
          (c.tells_of.ensures.same w.if-not-tells_of.false) (c.tells_of.ensures.some w.if-not-tells_of.false)))
    ] in
    (c.deref.result.now, is, c.in_ok-extend_from_slice.ensures.items)
