use Rattle.std.proofs.Common.{sym}
use Rattle.logic_controllers.proofs.Passes.{simple-child, simple-over}
use Rattle.logic_controllers.proofs.simple_cursor.SimpleCursor.take_turn.Goals as goal

pub returns-in-Some-clause-goes : goal.returns-in-Some-clause-goes
returns-in-Some-clause-goes c = λ state. sym (simple-child c.args.self.now state _ c.next_child.new.self c.in-Some.ensures)

pub returns-in-None-clause-goes : goal.returns-in-None-clause-goes
returns-in-None-clause-goes c = λ state. sym (simple-over c.args.self.now state c.next_child.new.self c.in-None.ensures)
