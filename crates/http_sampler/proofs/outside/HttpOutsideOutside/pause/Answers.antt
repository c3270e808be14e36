use Rattle.http_sampler.proofs.Accounts.{goes_pause}
use Rattle.http_sampler.proofs.outside.HttpOutsideOutside.pause.Goals as goal

pub returns-clause-ok : goal.returns-clause-ok
returns-clause-ok g c = rw (← c.self.view_is) (goes_pause _ _ c.args.ms)
