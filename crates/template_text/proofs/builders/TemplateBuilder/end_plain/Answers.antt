use Rattle.std.proofs.Common.{◌≢◌, ◌++◌, [], ◌∷◌, sym, ◌∙◌, ap}
use Rattle.std.proofs.Common.{vec_len, arith, length}
use Rattle.std.proofs.lemmas.Bool.{eqb-false}
use Rattle.template_text.specs.declared.builders.TemplateBuilder.{TemplateBuilder}
use Rattle.template_text.specs.declared.template.Piece.TheVariants.{Text}
use Rattle.template_text.specs.Builders.{pieces_then}
use Rattle.template_text.proofs.Joining.{plain_then}
use Rattle.template_text.proofs.builders.TemplateBuilder.end_plain.Goals as goal

pub returns-in_ok-push-clause-same : goal.returns-in_ok-push-clause-same
returns-in_ok-push-clause-same c = λ more e.
    let old : TemplateBuilder = c.args.self.now in
    let long : vec_len old.plain ≢ 0 = eqb-false (vec_len old.plain) 0 (sym c.if-not-is_empty.ensures) in
    let some : old.plain.items ≢ [] = λ q. long (omega (arith, ap length q, old.plain.ok)) in
    ap (λ w. pieces_then w more) c.in_ok-push.ensures.items
    ∙ (ap (λ t. pieces_then (old.pieces.items ++ Text t ∷ []) more) (c.of.ensures ∙ ap (λ v. v.items) c.replace-plain.ensures.value)
    ∙ plain_then old.pieces.items old.plain.items more e some)
