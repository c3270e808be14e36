use Rattle.jm_command.proofs.TextLaws.{check_says, made_says}
use Rattle.jm_command.proofs.print.print_plan.Goals as goal

pub returns-in-Check : goal.returns-in-Check
returns-in-Check g c = rw c.in-Check.is (check_says c.args.plan.now _ _ _ _ _ _ c.print_check.result c.print_check.ensures)

pub returns-in-Make : goal.returns-in-Make
returns-in-Make g c = rw c.in-Make.is (made_says c.args.plan.now c.in-Make.field-0 _ _ _ _ _ _ c.print_made.result c.print_made.ensures)
