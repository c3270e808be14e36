use Rattle.plain_run.proofs.UnderWay.{at-start, cut-always}
use Rattle.plain_run.proofs.run_plainly.Goals as goal

pub returns-in_err-progress-clause-cut : goal.returns-in_err-progress-clause-cut
returns-in_err-progress-clause-cut g c = cut-always c.from_residual.result (at-start _ _)
