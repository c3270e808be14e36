use Rattle.mirror_server.proofs.OneAnswer.{one}
use Rattle.mirror_server.proofs.laws.one_answer.Goals as goal

pub returns : goal.returns
returns c = λ bytes a b. one bytes a b
