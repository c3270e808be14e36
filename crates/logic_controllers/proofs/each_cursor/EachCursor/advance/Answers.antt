use Rattle.std.proofs.Common.{None}
use Rattle.var_functions.proofs.CameLaws.{came-first}
use Rattle.cursor_steps.specs.CursorStep.{answers, past_limit}
use Rattle.logic_controllers.specs.ControllerRounds.{opened}
use Rattle.var_functions.specs.declared.state.UserState.{UserState}
use Rattle.logic_controllers.specs.declared.each_cursor.EachCursor.{EachCursor}
use Rattle.logic_controllers.specs.ForEachController.{Row, each_goes, each_next}
use Rattle.logic_controllers.proofs.each_cursor.EachCursor.advance.Goals as goal

pub returns-in-Ok-clause-came : goal.returns-in-Ok-clause-came
returns-in-Ok-clause-came g c =
    let a = g.O.Outside.account c.args.outside.now in
    let row : Row = record { input = c.args.input.now; separator = c.args.span.separator; start = c.args.span.start; end = c.args.span.end } in
    let s : UserState = record { vars = c.open.new.vars; fns = c.args.state.now.fns } in
    let d : EachCursor = record { element = c.args.self.now.element; rounds = opened c.args.self.now.rounds; value = None } in
    came-first a a a (each_next c.args.name.now row c.args.output.now c.args.self.now c.args.state.now) (each_goes row d s) (λ t. answers t c.go_on.new.self s) (past_limit c.go_on.new.self s) c.go_on.result
    (c.in-Ok.ensures.came a c.args.state.now.fns (each_goes row d)) (rw c.in-Ok.ensures.opened at (c.go_on.ensures.came a))

pub returns-in-Err-clause-came : goal.returns-in-Err-clause-came
returns-in-Err-clause-came g c =
    let a = g.O.Outside.account c.args.outside.now in
    let row : Row = record { input = c.args.input.now; separator = c.args.span.separator; start = c.args.span.start; end = c.args.span.end } in
    let d : EachCursor = record { element = c.args.self.now.element; rounds = opened c.args.self.now.rounds; value = None } in
    c.in-Err.ensures.came a c.args.state.now.fns (each_goes row d)
