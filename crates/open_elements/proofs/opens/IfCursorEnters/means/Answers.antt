use Rattle.std.proofs.Common.{sym}
use Rattle.std.specs.Prelude.{slice_get}
use Rattle.element_tree.specs.declared.kinds.Kind.TheVariants as kinds
use Rattle.cursor_steps.specs.RunningChildren.{run_count}
use Rattle.jm_meaning.specs.Children.{children_of}
use Rattle.open_elements.specs.Entering.{here_with}
use Rattle.logic_controllers.specs.IfController.{if_enters_at}
use Rattle.open_elements.specs.Cursors.{if_left_in}
use Rattle.open_elements.proofs.PassLaws.{count-is}
use Rattle.open_elements.proofs.EnterLaws.{if-enter-in}
use Rattle.open_elements.proofs.AtElement.{enters-at}
use Rattle.open_elements.proofs.opens.IfCursorEnters.means.Goals as goal

pub returns : goal.returns
returns c = λ plan failure below number e round d s there is.
    enters-at (here_with plan failure) below number e (kinds.If is.0 is.1) round s (slice_get plan.elements d.element) d (λ e. if_enters_at e.kind (run_count plan.elements e) d s.user) (if_left_in e.kind below round (children_of plan.elements e)) is.2 there
    (if-enter-in e.kind is.0 is.1 below round (children_of plan.elements e) (run_count plan.elements e) d s is.2 (sym (count-is plan.elements e)))
