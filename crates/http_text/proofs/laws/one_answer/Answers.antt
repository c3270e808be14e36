use Rattle.http_text.specs.ResponseGrammar.{Heads}
use Rattle.http_text.proofs.OneAnswer.{one}
use Rattle.http_text.proofs.laws.one_answer.Goals as goal

pub returns : goal.returns
returns c = λ h bytes a b. one h (Heads 0) bytes a b
