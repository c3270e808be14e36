use Rattle.std.proofs.Common.{[], ◌∷◌, sym, ◌∙◌, ap}
use Rattle.template_text.specs.Pieces.{argument, no_arguments}
use Rattle.template_text.specs.Builders.{arguments_then}
use Rattle.template_text.proofs.Joining.{arguments_then-append, arguments_then-nothing}
use Rattle.template_text.proofs.builders.ArgumentsBuilder.finish.Goals as goal

pub returns : goal.returns
returns c =
    sym (arguments_then-nothing c.push.new.self.items)
    ∙ (ap (λ w. arguments_then w no_arguments) c.in_ok-push.ensures.items
    ∙ (arguments_then-append c.args.self.done.items (c.in_ok-template.template ∷ []) no_arguments
    ∙ ap (λ w. arguments_then c.args.self.done.items (argument w no_arguments)) c.in_ok-template.ensures))
