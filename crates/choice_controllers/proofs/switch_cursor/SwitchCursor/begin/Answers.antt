use Rattle.std.proofs.Common.{ap, ◌∙◌}
use Rattle.choice_controllers.proofs.ChosenLaws.{switch-begun, switch-refused}
use Rattle.choice_controllers.specs.SwitchController.{picks, run_names}
use Rattle.choice_controllers.proofs.switch_cursor.SwitchCursor.begin.Goals as goal

pub returns-in-Ok-clause-came : goal.returns-in-Ok-clause-came
returns-in-Ok-clause-came g c =
    switch-begun _ _ c.args.value.now (run_names c.args.plan.now.elements c.args.element.now) c.args.self.now c.args.state.now c.expand.new.state c.in-Ok.text _ c.in-Ok.ensures.came c.in-Ok.ensures.vars
    (c.picks-self.ensures.place ∙ ap (λ t. picks t (run_names c.args.plan.now.elements c.args.element.now)) c.bytes.ensures)

pub returns-in-Err-clause-came : goal.returns-in-Err-clause-came
returns-in-Err-clause-came g c =
    switch-refused _ _ c.args.value.now (run_names c.args.plan.now.elements c.args.element.now) c.args.self.now c.args.state.now c.expand.new.state c.in-Err.error c.in-Err.ensures.came c.in-Err.ensures.vars
