use Rattle.std.specs.Prelude.{slice_get}
use Rattle.element_tree.specs.declared.kinds.Kind.TheVariants as kinds
use Rattle.jm_meaning.specs.Children.{children_of}
use Rattle.open_elements.specs.Entering.{here_with}
use Rattle.choice_controllers.specs.SwitchController.{run_names, switch_enters_at}
use Rattle.open_elements.specs.Cursors.{switch_left}
use Rattle.open_elements.proofs.ChoiceLaws.{switch-enter-in}
use Rattle.open_elements.proofs.AtElement.{enters-at}
use Rattle.open_elements.proofs.opens.SwitchCursorEnters.means.Goals as goal

pub returns : goal.returns
returns c = λ plan failure below number e round d s there is.
    enters-at (here_with plan failure) below number e (kinds.Switch is.0) round s (slice_get plan.elements d.element) d (λ e. switch_enters_at e.kind (run_names plan.elements e) d s.user) (switch_left below round (children_of plan.elements e)) is.1 there
    (switch-enter-in e.kind (run_names plan.elements e) is.0 below round (children_of plan.elements e) d s is.1)
