-- What a call came to inside the open elements.
use Rattle.std.specs.Prelude.{List, Result, Ok, Err}
use Rattle.jm_base.specs.Run.{Run}
use Rattle.jm_base.specs.Outside.{Account}
use Rattle.thread_vars.specs.declared.error.VarError.{VarError}
use Rattle.var_functions.specs.Came.{CameTo}
use Rattle.jm_meaning.specs.State.{State, Ending}
use Rattle.jm_meaning.specs.Meaning.{Here}
use Rattle.open_elements.specs.Moves.{past}
use Rattle.control_machine.specs.declared.stack.Frame.{Frame}
use Rattle.control_machine.specs.declared.position.Group.{Group}
use Rattle.jm_meaning.specs.Sections.{leaving_open}
use Rattle.control_machine.specs.Left.{left_in, open_lock, AreApart}
use Rattle.control_machine.proofs.StackLaws.{goes_left, refused_left}

pub came_left : {B : Type 0} (here : Here) (g : Group) (fs : List Frame) (a b : Account) (x : Run Ending) (on : B → Run Ending) (s : State) (res : Result B VarError) → AreApart here.plan.elements fs
    → CameTo a x b on (past s) res → CameTo a (left_in here g fs x) b (λ y. left_in here g fs (on y)) (leaving_open (open_lock fs) (past s)) res
came_left here g fs a b x on s (Ok y) apart h = goes_left here g fs h
came_left here g fs a b x on s (Err e) apart h = refused_left here g fs apart h
