-- Neither call takes the machine out of its plan.
use Rattle.control_cases.proofs.threads.tell.Goals as goal

pub returns : goal.returns
returns c = λ plan stands. c.leave.ensures.stands plan (c.after.ensures.stands plan stands)
