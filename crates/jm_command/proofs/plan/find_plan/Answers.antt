use Rattle.jm_command.proofs.ProgramLaws.{refusal_said}
use Rattle.jm_command.proofs.plan.find_plan.Goals as goal

pub returns-in-Unfit-clause-unfound : goal.returns-in-Unfit-clause-unfound
returns-in-Unfit-clause-unfound g c =
    refusal_said c.args.command.now c.args.bytes.now _ _ _ _ _ _ c.in-Unfit.refusal c.in-Unfit.ensures c.refuse.result c.refuse.ensures
