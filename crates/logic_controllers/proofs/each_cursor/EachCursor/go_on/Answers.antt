use Rattle.std.proofs.lemmas.Result.{err_from_is_err_and}
use Rattle.cursor_steps.proofs.Steps.{goes-same, at-once}
use Rattle.logic_controllers.proofs.EachLaws.{each-child, each-over, each-round}
use Rattle.logic_controllers.proofs.each_cursor.EachCursor.go_on.Goals as goal

pub returns-in-Some-clause-came : goal.returns-in-Some-clause-came
returns-in-Some-clause-came c = λ a. goes-same a _ _ (each-child _ c.args.self.now c.args.state.now _ c.next_child.new.self c.in-Some.ensures)

pub returns-in_ok-keep-in-Ok-Some-clause-came : goal.returns-in_ok-keep-in-Ok-Some-clause-came
returns-in_ok-keep-in-Ok-Some-clause-came c = λ a.
    rw (c.in_ok-keep-in-Ok-Some.ensures.ok, c.bytes.ensures)
    (goes-same a _ _ (each-round _ c.args.self.now c.args.state.now c.next_child.new.self c.begin.new.self c.in-Ok-Some.value.now c.in_default.ensures (rw c.in-Ok-Some.field-0-is at c.in-Ok-Some.ensures.value) c.begin.ensures))

pub returns-in_err-keep-in-Ok-Some-clause-came : goal.returns-in_err-keep-in-Ok-Some-clause-came
returns-in_err-keep-in-Ok-Some-clause-came c = λ a.
    let p = err_from_is_err_and c.from_residual.result c.from_residual.ensures.1 in rw (p.1, p.2) (at-once a _ _)

pub returns-in-Ok-None-clause-came : goal.returns-in-Ok-None-clause-came
returns-in-Ok-None-clause-came c = λ a. goes-same a _ _ (each-over _ c.args.self.now c.args.state.now c.next_child.new.self c.in_default.ensures (rw c.in-Ok-None.field-0-is at c.in-Ok-None.ensures.value))

pub returns-in-Err-clause-came : goal.returns-in-Err-clause-came
returns-in-Err-clause-came c = λ a. at-once a _ _
