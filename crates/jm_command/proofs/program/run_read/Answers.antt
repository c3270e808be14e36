use Rattle.std.specs.Prelude.{None}
use Rattle.jm_command.proofs.ProgramLaws.{reads_plan, can_run, unplanned_said, plan_printed}
use Rattle.jm_command.proofs.program.run_read.Goals as goal

pub read_plan-requires : goal.read_plan-requires
read_plan-requires g c = reads_plan c.args.command.now c.requires

pub print_plan-requires : goal.print_plan-requires
print_plan-requires g c = can_run c.args.command.now _ _ _ c.in-Ok.plan c.requires (c.in-Ok.ensures.accepted None 0).accepted

pub returns-in-Err : goal.returns-in-Err
returns-in-Err g c = unplanned_said c.args.command.now _ _ c.in-Err.status (c.in-Err.ensures.unplanned _ _)

pub returns-in-Ok : goal.returns-in-Ok
returns-in-Ok g c =
    plan_printed _ _ _ _ _ _ _ _ _ _ _ _ _ _ _ _ c.args.command.now c.requires c.in-Ok.ensures.calm c.in-Ok.plan (c.in-Ok.ensures.accepted _ _) c.print_plan.result c.print_plan.ensures
