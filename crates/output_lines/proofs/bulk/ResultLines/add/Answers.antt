use Rattle.std.proofs.Common.{◌≡◌, [], ◌∷◌, ◌++◌, ap, ◌∙◌, sym, subst, rules, append_assoc}
use Rattle.std.specs.Fmt.{decimal}
use Rattle.csv.specs.Writing.{comma}
use Rattle.output_lines.specs.Lines.{result_text}
use Rattle.output_lines.specs.Bulk.{LinesOf, IsTail}
use Rattle.output_lines.proofs.Middles.{line_of_tail, last_tail}
use Rattle.output_lines.proofs.bulk.ResultLines.add.Goals.{then-not-ends_the_same+in_ok-write_tail, else-not-ends_the_same}
use Rattle.output_lines.proofs.bulk.ResultLines.add.Goals as goal

pub returns-clause-ok : goal.returns-clause-ok
returns-clause-ok c =
    let lines = c.args.self.now in
    let s = c.args.sample.now in
    let is : IsTail lines.plan lines.thread s c.args.interval c.deref.result.now =
    elim c.if-not-ends_the_same.branch [
      | then-not-ends_the_same+in_ok-write_tail w ↦ search rules
      | else-not-ends_the_same w ↦
          let kept : c.deref.result.now ≡ c.self.inside.tail.items = search rules in
          subst (λ t. IsTail lines.plan lines.thread s c.args.interval t) (sym kept)
          (subst (λ (l : LinesOf). IsTail l.plan l.thread s c.args.interval c.self.inside.tail.items) c.self.view_is
          (last_tail c.self.inside.middles.plan c.self.inside.middles.thread s c.args.interval c.self.inside.tail.items c.self.inside.last c.self.invariant
          (c.ends_the_same.ensures.same w.if-not-ends_the_same.false) (c.ends_the_same.ensures.some w.if-not-ends_the_same.false)))
    ] in
    let line : decimal s.stamp ++ comma ∷ c.deref.result.now ≡ result_text lines.plan lines.thread s c.args.interval = line_of_tail lines.plan lines.thread c.args.interval s c.deref.result.now is c.in_ok-append_line.ensures.number in
    c.in_ok-append_line.ensures.ok ∙ ap (λ l. c.args.out.now.items ++ l) (append_assoc (decimal s.stamp) (comma ∷ []) c.deref.result.now ∙ line)
