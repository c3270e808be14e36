use Rattle.std.proofs.Common.{sym, ap, ◌∙◌, None}
use Rattle.std.specs.Prelude.{Ok}
use Rattle.var_functions.proofs.LaterLaws.{later_same}
use Rattle.cursor_steps.specs.CursorStep.{answers}
use Rattle.cursor_steps.specs.RunningChildren.{run_count}
use Rattle.logic_controllers.specs.ControllerRounds.{before_rounds}
use Rattle.cursor_steps.proofs.Steps.{goes-same, by-element}
use Rattle.logic_controllers.specs.ForEachController.{each_enters}
use Rattle.logic_controllers.proofs.each_cursor.EachCursorController.enter_among.Goals as goal

pub returns-clause-came : goal.returns-clause-came
returns-clause-came g c =
    by-element (g.O.Outside.account c.args._outside.now) (g.O.Outside.account c.args._outside.now) _ c.requires.there.0 c.args.self.now _ c.args._state.now c.args._state.now
    (λ e. each_enters (run_count c.args._plan.now.elements e) c.args.self.now c.args._state.now) (Ok tt) (sym c.requires.there.1)
    (rw c.forget.ensures (goes-same _ _ _ (ap (λ r. answers tt (record { element = c.args.self.now.element; rounds = r; value = None }) c.args._state.now)
    (sym (c.before_first-self.ensures ∙ ap before_rounds (c.requires.counted c.requires.there.0 c.requires.there.1))))))

pub returns-clause-later : goal.returns-clause-later
returns-clause-later g c = later_same _
