use Rattle.plain_run.proofs.StepLaws.{none-taken, one-taken}
use Rattle.plain_run.proofs.progress.Progress.take_round.Goals as goal

pub returns-then-self-eq0-clause-plays : goal.returns-then-self-eq0-clause-plays
returns-then-self-eq0-clause-plays c = λ a. none-taken a c.args.self.now c.if-self-eq0.true

pub returns-clause-plays : goal.returns-clause-plays
returns-clause-plays c = λ a. one-taken a c.args.self.now c.if-self-eq0.false
