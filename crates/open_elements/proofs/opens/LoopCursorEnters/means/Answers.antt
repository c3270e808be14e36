use Rattle.std.specs.Prelude.{slice_get}
use Rattle.element_tree.specs.declared.kinds.Kind.TheVariants as kinds
use Rattle.cursor_steps.specs.RunningChildren.{run_count}
use Rattle.jm_meaning.specs.Children.{children_of}
use Rattle.open_elements.specs.Entering.{here_with}
use Rattle.logic_controllers.specs.LoopController.{loop_enters_at}
use Rattle.open_elements.specs.Cursors.{loop_left}
use Rattle.open_elements.proofs.EnterLaws.{loop-enter-in}
use Rattle.open_elements.proofs.AtElement.{enters-at}
use Rattle.open_elements.proofs.opens.LoopCursorEnters.means.Goals as goal

pub returns : goal.returns
returns c = λ plan failure below number e round d s there is.
    enters-at (here_with plan failure) below number e (kinds.Loop is.0) round s (slice_get plan.elements d.element) d (λ e. loop_enters_at e.kind (run_count plan.elements e) d s.user) (loop_left e.name below (children_of plan.elements e)) is.1 there
    (loop-enter-in e.kind e.name is.0 below (children_of plan.elements e) (run_count plan.elements e) d s is.1)
