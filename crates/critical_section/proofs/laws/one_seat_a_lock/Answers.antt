use Rattle.critical_section.proofs.Steps.{one_open}
use Rattle.critical_section.proofs.laws.one_seat_a_lock.Goals as goal

pub returns : goal.returns
returns c = one_open
