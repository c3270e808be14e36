use Rattle.http_text.proofs.OneTarget.{one-target, not-bad}
use Rattle.http_text.proofs.laws.one_target.Goals as goal

pub returns-clause-one : goal.returns-clause-one
returns-clause-one c = λ s t u. one-target s t u

pub returns-clause-not_bad : goal.returns-clause-not_bad
returns-clause-not_bad c = λ s t. not-bad s t
