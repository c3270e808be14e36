use Rattle.var_functions.proofs.LaterLaws.{later_same}
use Rattle.var_functions.proofs.value.counter_value.Goals as goal

pub returns-clause-later : goal.returns-clause-later
returns-clause-later c = later_same _
