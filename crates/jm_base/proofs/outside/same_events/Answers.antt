use Rattle.jm_base.proofs.Told.{same_events_law}
use Rattle.jm_base.proofs.outside.same_events.Goals as goal

pub returns : goal.returns
returns c = same_events_law
