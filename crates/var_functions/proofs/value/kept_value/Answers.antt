use Rattle.var_functions.proofs.LaterLaws.{later_same}
use Rattle.var_functions.proofs.value.kept_value.Goals as goal

pub returns-in-IntSum-clause-later : goal.returns-in-IntSum-clause-later
returns-in-IntSum-clause-later c = later_same _

pub returns-clause-later : goal.returns-clause-later
returns-clause-later c = later_same _

pub returns-in_err-value-in-Property-clause-later : goal.returns-in_err-value-in-Property-clause-later
returns-in_err-value-in-Property-clause-later c = later_same _

pub returns-in_err-value-in-Condition-clause-later : goal.returns-in_err-value-in-Condition-clause-later
returns-in_err-value-in-Condition-clause-later c = later_same _
