use Rattle.var_functions.proofs.LaterLaws.{later_same, later_draw}
use Rattle.choice_controllers.proofs.random_cursor.random_place.Goals as goal

pub returns-then-children-eq0-clause-later : goal.returns-then-children-eq0-clause-later
returns-then-children-eq0-clause-later c = later_same _

pub returns-clause-later : goal.returns-clause-later
returns-clause-later c = later_draw _ _ c.draw.ensures.after
