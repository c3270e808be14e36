use Rattle.std.proofs.Common.{sym}
use Rattle.std.specs.Prelude.{Ok}
use Rattle.var_functions.specs.declared.state.UserState.{UserState}
use Rattle.cursor_steps.specs.RunningChildren.{run_count}
use Rattle.cursor_steps.proofs.Steps.{goes-same, by-element}
use Rattle.choice_controllers.specs.RandomController.{random_enters}
use Rattle.choice_controllers.specs.declared.random_cursor.RandomCursor.{RandomCursor}
use Rattle.choice_controllers.proofs.ChosenLaws.{random-entered}
use Rattle.choice_controllers.proofs.random_cursor.RandomCursorController.enter_among.Goals as goal

pub returns-clause-came : goal.returns-clause-came
returns-clause-came g c =
    let d : RandomCursor = record { element = c.args.self.now.element; chosen = c.random_place-self.result } in
    let s : UserState = record { vars = c.args.state.now.vars; fns = c.random_place-self.new.fns } in
    by-element (g.O.Outside.account c.args._outside.now) (g.O.Outside.account c.args._outside.now) _ c.requires.there.0 c.args.self.now d c.args.state.now s
    (λ e. random_enters (run_count c.args._plan.now.elements e) c.args.self.now c.args.state.now) (Ok tt) (sym c.requires.there.1)
    (goes-same _ _ _ (random-entered (run_count c.args._plan.now.elements c.requires.there.0) c.args.children c.args.self.now c.args.state.now c.random_place-self.result c.random_place-self.new.fns
    (c.requires.counted c.requires.there.0 c.requires.there.1) c.random_place-self.ensures.place c.random_place-self.ensures.fns))
