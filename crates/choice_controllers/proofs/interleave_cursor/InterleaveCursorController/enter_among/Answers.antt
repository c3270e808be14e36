use Rattle.std.proofs.Common.{sym, ap, ◌∙◌}
use Rattle.std.specs.Prelude.{Ok}
use Rattle.var_functions.proofs.LaterLaws.{later_same}
use Rattle.cursor_steps.specs.CursorStep.{answers}
use Rattle.cursor_steps.specs.RunningChildren.{run_count}
use Rattle.cursor_steps.proofs.Steps.{goes-same, by-element}
use Rattle.choice_controllers.specs.InterleaveController.{interleaved, interleave_enters}
use Rattle.choice_controllers.proofs.interleave_cursor.InterleaveCursorController.enter_among.Goals as goal

pub returns-clause-came : goal.returns-clause-came
returns-clause-came g c =
    by-element (g.O.Outside.account c.args._outside.now) (g.O.Outside.account c.args._outside.now) _ c.requires.there.0 c.args.self.now c.choose.new.self c.args._state.now c.args._state.now
    (λ e. interleave_enters (run_count c.args._plan.now.elements e) c.args.self.now c.args._state.now) (Ok tt) (sym c.requires.there.1)
    (goes-same _ _ _ (ap (λ new. answers tt new c.args._state.now)
    (sym (c.choose.ensures.moved ∙ ap (λ n. interleaved n c.args.self.now) (c.requires.counted c.requires.there.0 c.requires.there.1)))))

pub returns-clause-later : goal.returns-clause-later
returns-clause-later g c = later_same _
