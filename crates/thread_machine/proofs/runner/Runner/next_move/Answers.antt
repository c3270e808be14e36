use Rattle.var_functions.proofs.CameLaws.{came-first}
use Rattle.jm_meaning.specs.Sections.{leaving_open}
use Rattle.open_elements.specs.Moves.{past}
use Rattle.control_machine.specs.Left.{left_of, state_at, moved, open_lock}
use Rattle.thread_machine.specs.Standing.{state_in}
use Rattle.thread_machine.specs.Inside.{standing_of}
use Rattle.thread_machine.specs.Ran.{left_to}
use Rattle.std.proofs.Common.{false, ap, sym, ◌∙◌}
use Rattle.thread_machine.proofs.Going.{lock_open}
use Rattle.thread_machine.proofs.runner.Runner.next_move.Goals as goal

pub returns-in-Ok-clause-came : goal.returns-in-Ok-clause-came
returns-in-Ok-clause-came g c =
    let lock = ap (λ r. open_lock r.machine.stack.frames) c.set_out.ensures.kept ∙ sym (lock_open c.args.self.now c.requires.moves c.requires.entering) in
    came-first _ _ _ (left_to c.args.self.now) (left_of c.set_out.new.self.plan.now c.set_out.new.self.machine (state_in (standing_of c.set_out.new.self false)))
    (λ m. moved c.set_out.new.self.plan.now c.walk.new.machine (state_at c.walk.new.machine (record { units = c.set_out.new.self.units; config = c.walk.new.config.places }) c.walk.new.user) m)
    (leaving_open c.args.self.now.section (past (state_at c.walk.new.machine (record { units = c.set_out.new.self.units; config = c.walk.new.config.places }) c.walk.new.user)))
    c.walk.result c.in-Ok.ensures.came (rw lock at (c.walk.ensures.came c.set_out.new.self.units))

pub returns-in-Ok-clause-moved : goal.returns-in-Ok-clause-moved
returns-in-Ok-clause-moved g c =
    let lock = ap (λ r. open_lock r.machine.stack.frames) c.set_out.ensures.kept ∙ sym (lock_open c.args.self.now c.requires.moves c.requires.entering) in
    rw lock at c.walk.ensures.moved
