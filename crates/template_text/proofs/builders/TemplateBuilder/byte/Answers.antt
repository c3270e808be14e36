use Rattle.std.proofs.Common.{◌∙◌, ap}
use Rattle.template_text.specs.Builders.{pieces_then, text_then}
use Rattle.template_text.proofs.Joining.{text_then-push}
use Rattle.template_text.proofs.builders.TemplateBuilder.byte.Goals as goal

pub returns : goal.returns
returns c = λ more.
    ap (λ t. pieces_then c.args.self.now.pieces.items (text_then t more)) c.in_ok-push.ensures.items
    ∙ ap (pieces_then c.args.self.now.pieces.items) (text_then-push c.args.self.now.plain.items c.args.byte more)
