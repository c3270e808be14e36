use Rattle.std.specs.Prelude.{slice_get}
use Rattle.element_tree.specs.declared.kinds.Kind.TheVariants as kinds
use Rattle.cursor_steps.specs.RunningChildren.{run_count}
use Rattle.jm_meaning.specs.Children.{children_of}
use Rattle.open_elements.specs.Entering.{here_with}
use Rattle.logic_controllers.specs.WhileController.{while_enters}
use Rattle.open_elements.specs.Cursors.{while_left_in}
use Rattle.open_elements.proofs.EnterLaws.{while-enter-in}
use Rattle.open_elements.proofs.AtElement.{enters-at}
use Rattle.open_elements.proofs.opens.WhileCursorEnters.means.Goals as goal

pub returns : goal.returns
returns c = λ plan failure below number e round d s there is.
    enters-at (here_with plan failure) below number e (kinds.While is.0) round s (slice_get plan.elements d.element) d (λ e. while_enters (run_count plan.elements e) d s.user) (while_left_in e.kind e.name below (children_of plan.elements e)) is.1 there
    (while-enter-in e.kind e.name is.0 below (children_of plan.elements e) (run_count plan.elements e) d s is.1)
