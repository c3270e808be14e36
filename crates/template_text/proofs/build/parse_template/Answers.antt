-- The pieces that are read are the reading, which is spelled as the text.
use Rattle.std.proofs.Common.{subst, sym, ap, ◌∙◌}
use Rattle.template_text.specs.Pieces.{spelling}
use Rattle.template_text.specs.TemplateGrammar.{IsReadingOf}
use Rattle.template_text.proofs.Readings.{reading_is}
use Rattle.template_text.proofs.build.parse_template.Goals as goal

pub returns-clause-reading : goal.returns-clause-reading
returns-clause-reading c = subst (IsReadingOf c.args.text.now) (sym c.in_ok-template.ensures) (reading_is c.args.text.now)

pub returns-clause-spelled : goal.returns-clause-spelled
returns-clause-spelled c = ap spelling c.in_ok-template.ensures ∙ (reading_is c.args.text.now).spelled
