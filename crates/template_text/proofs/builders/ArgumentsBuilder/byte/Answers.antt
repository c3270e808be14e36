use Rattle.std.proofs.Common.{ap}
use Rattle.template_text.specs.Builders.{arguments_then}
use Rattle.template_text.proofs.Joining.{first_joined-byte}
use Rattle.template_text.proofs.builders.ArgumentsBuilder.byte.Goals as goal

pub returns : goal.returns
returns c = λ args. ap (arguments_then c.args.self.now.done.items) (first_joined-byte c.byte.new.self c.args.self.now.last c.args.byte c.in_ok-byte.ensures args)
