use Rattle.std.proofs.Common.{ap}
use Rattle.template_text.specs.Builders.{arguments_then}
use Rattle.template_text.proofs.Joining.{first_joined-reference}
use Rattle.template_text.proofs.builders.ArgumentsBuilder.reference.Goals as goal

pub returns : goal.returns
returns c = λ r args e. ap (arguments_then c.args.self.now.done.items) (first_joined-reference c.reference.new.self c.args.self.now.last r (λ more. c.in_ok-reference.ensures r more e) args)
