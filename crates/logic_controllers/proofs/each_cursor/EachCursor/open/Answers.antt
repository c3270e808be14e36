use Rattle.std.proofs.Common.{ap, ◌∙◌, None}
use Rattle.logic_controllers.proofs.EachLaws.{each-opened, each-stays}
use Rattle.logic_controllers.proofs.each_cursor.EachCursor.open.Goals as goal

pub returns-in-Ok-clause-came : goal.returns-in-Ok-clause-came
returns-in-Ok-clause-came c = λ a fns next.
    each-opened a c.args.name.now c.args.output.now c.args.self.now c.put_out.new.self (record { vars = c.args.vars.now; fns = fns }) next c.open.new.vars c.put_out.new.vars c.put_out.result
    c.in-Ok.ensures.vars c.put_out.ensures.vars (c.put_out.ensures.taken ∙ ap (λ r. record { element = c.args.self.now.element; rounds = r; value = None }) c.in-Ok.ensures.opened)

pub returns-in-Err-clause-came : goal.returns-in-Err-clause-came
returns-in-Err-clause-came c = λ a fns next.
    each-stays a c.args.name.now c.args.output.now c.args.self.now (record { vars = c.args.vars.now; fns = fns }) next c.open.new.vars c.open.new.self c.in-Err.error c.in-Err.ensures.vars c.in-Err.ensures.kept
