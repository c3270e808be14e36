use Rattle.jm_command.proofs.TextLaws.{made_report}
use Rattle.jm_command.proofs.print.print_made.Goals as goal

pub returns : goal.returns
returns g c =
    made_report c.args.plan.now c.in-Ok.solo c.in-Ok-run_thread.ran.trace.items c.in-Ok-run_thread.ran.end c.in-Ok-run_thread.ensures.shown c.in-Ok.ensures _ _ _ _
    c.report_ran.result c.report_ran.ensures
