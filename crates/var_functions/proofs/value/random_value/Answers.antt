use Rattle.var_functions.proofs.LaterLaws.{later_same, later_draw}
use Rattle.var_functions.proofs.value.random_value.Goals as goal

pub returns-in-Some-Some-clause-later : goal.returns-in-Some-Some-clause-later
returns-in-Some-Some-clause-later c = later_draw _ _ c.draw.ensures.after

pub returns-in_default-clause-later : goal.returns-in_default-clause-later
returns-in_default-clause-later c = later_same _
