use Rattle.std.proofs.Common.{◌≡◌, [], Ok, ap, sym, ◌∙◌}
use Rattle.cond_expr.specs.Steps.{reading_of_steps, reading_of_steps-steps_of}
use Rattle.cond_expr.proofs.ReadLaws.{finished, empty_pending}
use Rattle.cond_expr.proofs.parse.Parser.finish.Goals as goal

pub invariant_of-result : goal.invariant_of-result
invariant_of-result c =
    let empty : c.settle.new.self.pending.items ≡ [] = empty_pending c.as_slice.result.now c.settle.new.self.pending.items c.is_empty.result c.is_empty.ensures c.if-not-is_empty.false c.as_slice.ensures.value in
    let (r, steps, is) = finished c.args.self c.settle.new.self c.args.end c.if-self.false c.in_ok-settle.ensures empty c.requires.0 c.requires.1 in
    (r, steps)

pub returns : goal.returns
returns c = λ s held.
    let empty : c.settle.new.self.pending.items ≡ [] = empty_pending c.as_slice.result.now c.settle.new.self.pending.items c.is_empty.result c.is_empty.ensures c.if-not-is_empty.false c.as_slice.ensures.value in
    let (r, steps, is) = finished c.args.self c.settle.new.self c.args.end c.if-self.false c.in_ok-settle.ensures empty s held in
    is ∙ ap (λ x. Ok x) (sym (ap reading_of_steps steps ∙ reading_of_steps-steps_of r))
