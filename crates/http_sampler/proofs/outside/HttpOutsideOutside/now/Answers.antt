use Rattle.http_sampler.proofs.Accounts.{goes_reading}
use Rattle.http_sampler.proofs.outside.HttpOutsideOutside.now.Goals as goal

pub returns-clause-ok : goal.returns-clause-ok
returns-clause-ok g c = rw (← c.self.view_is) (goes_reading _ _ c.now.result)
