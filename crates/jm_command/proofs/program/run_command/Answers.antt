use Rattle.jm_command.specs.Parts.{sinks}
use Rattle.jm_command.proofs.ProgramLaws.{made_said, usage_said}
use Rattle.jm_command.proofs.program.run_command.Goals as goal

pub returns-in-None : goal.returns-in-None
returns-in-None g c = rw c.in-None.is (usage_said _ _ _ _ _ _ _ _ _ c.say.result c.say.ensures)

pub returns-in-Some-Make : goal.returns-in-Some-Make
returns-in-Some-Make g c = rw (c.in-Some-Make.is, c.in-Some-Make.field-0-is) (made_said _ _ (sinks _ _ _ _) (sinks _ _ _ _) _ c.in-Some-Make.make c.run_made.result c.run_made.ensures)
