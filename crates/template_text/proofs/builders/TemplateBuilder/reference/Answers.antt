use Rattle.std.proofs.Common.{[], ◌∷◌, ◌∙◌, ap, refl}
use Rattle.template_text.specs.Pieces.{reference}
use Rattle.template_text.specs.Builders.{pieces_then, text_then}
use Rattle.template_text.proofs.Joining.{pieces_then-append, reference_then}
use Rattle.template_text.proofs.builders.TemplateBuilder.reference.Goals as goal

pub returns : goal.returns
returns c = λ r more e.
    ap (λ w. pieces_then c.push.new.self.items (text_then w more)) c.in_ok-end_plain.ensures.none
    ∙ (ap (λ w. pieces_then w more) c.in_ok-push.ensures.items
    ∙ (pieces_then-append c.end_plain.new.self.pieces.items (c.args.piece ∷ []) more
    ∙ (ap (pieces_then c.end_plain.new.self.pieces.items) (reference_then c.args.piece r more e)
    ∙ c.in_ok-end_plain.ensures.same (reference r more) refl)))
