use Rattle.std.proofs.Common.{sym}
use Rattle.std.specs.Prelude.{slice_get}
use Rattle.element_tree.specs.declared.kinds.Kind.TheVariants as kinds
use Rattle.cursor_steps.specs.RunningChildren.{run_count}
use Rattle.jm_meaning.specs.Children.{children_of}
use Rattle.open_elements.specs.Entering.{here_with}
use Rattle.logic_controllers.specs.OnceOnlyController.{once_enters}
use Rattle.open_elements.specs.Cursors.{once_left}
use Rattle.open_elements.proofs.PassLaws.{count-is}
use Rattle.open_elements.proofs.EnterLaws.{once-enter}
use Rattle.open_elements.proofs.AtElement.{enters-at}
use Rattle.open_elements.proofs.opens.OnceCursorEnters.means.Goals as goal

pub returns : goal.returns
returns c = λ plan failure below number e round d s there is.
    enters-at (here_with plan failure) below number e (kinds.OnceOnly) round s (slice_get plan.elements d.element) d (λ e. once_enters (run_count plan.elements e) d s.user) (once_left below round (children_of plan.elements e)) is there
    (once-enter below round (children_of plan.elements e) (run_count plan.elements e) d s (sym (count-is plan.elements e)))
