use Rattle.std.specs.Prelude.{slice_get}
use Rattle.cursor_steps.specs.RunningChildren.{run_count}
use Rattle.jm_meaning.specs.Children.{children_of}
use Rattle.open_elements.specs.Entering.{here_with}
use Rattle.logic_controllers.specs.ForEachController.{kind_of, each_enters}
use Rattle.open_elements.specs.Cursors.{each_left_in}
use Rattle.open_elements.proofs.EnterLaws.{each-enter-in}
use Rattle.open_elements.proofs.AtElement.{enters-at}
use Rattle.open_elements.proofs.opens.EachCursorEnters.means.Goals as goal

pub returns : goal.returns
returns c = λ plan failure below number e round d s there is.
    enters-at (here_with plan failure) below number e (kind_of is.0 is.1) round s (slice_get plan.elements d.element) d (λ e. each_enters (run_count plan.elements e) d s.user) (each_left_in e.kind e.name below (children_of plan.elements e)) is.2 there
    (each-enter-in e.kind e.name is.0 is.1 below (children_of plan.elements e) (run_count plan.elements e) d s is.2)
