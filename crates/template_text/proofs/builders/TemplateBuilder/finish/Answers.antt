use Rattle.std.proofs.Common.{sym, ◌∙◌, refl}
use Rattle.template_text.specs.Pieces.{no_more}
use Rattle.template_text.proofs.Joining.{pieces_then-nothing}
use Rattle.template_text.proofs.builders.TemplateBuilder.finish.Goals as goal

pub returns : goal.returns
returns c = sym (pieces_then-nothing c.end_plain.new.self.pieces.items) ∙ c.in_ok-end_plain.ensures.same no_more refl
