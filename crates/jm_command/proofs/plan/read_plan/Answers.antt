use Rattle.std.proofs.Common.{rules}
use Rattle.jm_command.proofs.ProgramLaws.{unfound_by}
use Rattle.jm_command.proofs.plan.read_plan.Goals as goal

pub returns-in-Ok-clause-unplanned : goal.returns-in-Ok-clause-unplanned
returns-in-Ok-clause-unplanned g c =
    unfound_by _ _ _ _ _ _ _ _ _ _ c.in-Ok.ensures.ok c.args.command.now c.requires c.in-Ok.bytes.items (search rules) c.in-Ok.ensures.bytes
    c.find_plan.result (rw c.deref.ensures.value at c.find_plan.ensures.unfound)
