use Rattle.std.proofs.Common.{refl}
use Rattle.std.specs.Prelude.{None}
use Rattle.jm_command.proofs.StartLaws.{run_fits, run_printed, run_unplanned}
use Rattle.jm_command.proofs.running.read_and_run.Goals as goal

pub read_plan-requires : goal.read_plan-requires
read_plan-requires g c = rw c.requires.is tt

pub run_beside-requires-clause-samples : goal.run_beside-requires-clause-samples
run_beside-requires-clause-samples g c κs within = run_fits c.args.command.now c.args.run.now _ _ c.in-Ok.plan c.requires.is (c.in-Ok.ensures.accepted None 0)

pub returns-in-Ok-clause-says : goal.returns-in-Ok-clause-says
returns-in-Ok-clause-says g c =
    run_printed _ _ _ _ _ _ _ _ _ _ _ _ _ _ _ _ c.args.command.now c.args.run.now c.requires.is c.in-Ok.ensures.calm c.in-Ok.plan (c.in-Ok.ensures.accepted _ _) _ _
    c.run_beside.result c.run_beside.ensures.prints

pub returns-in-Err-clause-says : goal.returns-in-Err-clause-says
returns-in-Err-clause-says g c =
    run_unplanned c.args.command.now c.args.run.now c.requires.is _ _ _ _ (c.requires.opened, refl) c.in-Err.status (c.in-Err.ensures.unplanned _ _)
