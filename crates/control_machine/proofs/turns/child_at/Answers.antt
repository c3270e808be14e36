use Rattle.std.proofs.Common.{sym, ◌∙◌, arith}
use Rattle.cursor_steps.specs.RunningChildren.{runs_of}
use Rattle.control_machine.proofs.LinkedChild.{past_taken, taken_get, runs_there}
use Rattle.control_machine.proofs.turns.child_at.Goals as goal

pub returns-then-place-eq65535 : goal.returns-then-place-eq65535
returns-then-place-eq65535 c = λ elements e linked there. sym (past_taken (runs_of elements e) 65535 c.args.place (omega (arith, c.if-place-eq65535.true)))

pub returns : goal.returns
returns c = λ elements e linked there.
    c.child.ensures elements linked ∙ runs_there elements c.args.element c.args.place e there
    ∙ sym (taken_get (runs_of elements e) 65535 c.args.place (omega (arith, c.ranges.place.fits, c.if-place-eq65535.false)))
