use Rattle.std.proofs.Common.{ap, arith}
use Rattle.std.proofs.lemmas.Result.{IfOk-weaker}
use Rattle.jm_command.proofs.TextLaws.{shown_by}
use Rattle.jm_command.proofs.print.run_thread.Goals as goal

pub returns-clause-shown : goal.returns-clause-shown
returns-clause-shown c =
    IfOk-weaker c.run_alone.result _ _ (λ ran has_run. shown_by c.args.plan.now c.args.solo.now _ _ ran.trace.items (ap (λ o. o.value) c.in_ok-outside.ensures) ran.end has_run)
    c.run_alone.ensures.has_run

pub returns-clause-few : goal.returns-clause-few
returns-clause-few c = IfOk-weaker c.run_alone.result _ _ (λ ran count. (let most = c.requires.samples in omega (arith, count, most))) c.run_alone.ensures.count
