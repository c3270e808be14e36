use Rattle.std.proofs.Common.{◌≡◌, [], ◌∷◌, ◌∙◌, ap}
use Rattle.template_text.specs.Pieces.{Pieces, argument, no_more}
use Rattle.template_text.specs.Builders.{joined, arguments_then, first_joined}
use Rattle.template_text.proofs.Joining.{arguments_then-append, first_joined-new}
use Rattle.template_text.proofs.builders.ArgumentsBuilder.end_argument.Goals as goal

pub returns : goal.returns
returns c = λ args.
    let template : c.in_ok-template.template ≡ joined c.args.self.now.last no_more = c.in_ok-template.ensures ∙ ap (λ w. joined w no_more) c.replace-last.ensures.value in
    let empty : (more : Pieces) → joined c.replace-last.new.dest more ≡ more = λ more. ap (λ w. joined w more) c.replace-last.ensures.after ∙ c.new.ensures more in
    ap (λ w. arguments_then w (first_joined c.replace-last.new.dest args)) c.in_ok-push.ensures.items
    ∙ (arguments_then-append c.args.self.now.done.items (c.in_ok-template.template ∷ []) (first_joined c.replace-last.new.dest args)
    ∙ (ap (λ w. arguments_then c.args.self.now.done.items (argument w (first_joined c.replace-last.new.dest args))) template
    ∙ ap (λ w. arguments_then c.args.self.now.done.items (argument (joined c.args.self.now.last no_more) w)) (first_joined-new c.replace-last.new.dest empty args)))
