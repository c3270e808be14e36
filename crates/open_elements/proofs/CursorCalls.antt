-- Calls of cursors, over an outside.
use Rattle.std.proofs.Common.{◌≡◌, ℕ, List, Some, sym, ◌∙◌, subst}
use Rattle.std.specs.Prelude.{Result, slice_get}
use Rattle.jm_base.specs.Run.{Run, ◌>>=◌}
use Rattle.jm_base.specs.Outside.{Account}
use Rattle.element_tree.specs.declared.kinds.Element.{Element}
use Rattle.element_tree.specs.declared.package.Turn.{Turn}
use Rattle.thread_vars.specs.declared.error.VarError.{VarError}
use Rattle.var_functions.specs.declared.state.UserState.{UserState}
use Rattle.var_functions.specs.Came.{CameTo}
use Rattle.var_functions.proofs.CameLaws.{came-bind}
use Rattle.cursor_steps.specs.CursorStep.{Step, StepsTo, answers, past_limit}
use Rattle.jm_meaning.specs.State.{Own, Ending, Part, state_of}
use Rattle.jm_meaning.specs.Children.{Below}
use Rattle.open_elements.specs.Moves.{past, turned, stepped, begun}

pub came-step : {C : Type 0} (a b : Account) (below : Below) (round : C → ℕ) (children : List ℕ) (left : C → Part) (own : Own) (run : Run Ending) (step : Run (Step Turn C)) (c : C) (state : UserState)
    (res : Result Turn VarError) → run ≡ (step >>= stepped below round children left own) → StepsTo a step b c state res
    → CameTo a run b (turned below (round c) children (left c) (state_of state own)) (past (state_of state own)) res
came-step a b below round children left own run step c state res is came =
    subst (λ r. CameTo a r b (turned below (round c) children (left c) (state_of state own)) (past (state_of state own)) res) (sym is)
    (came-bind a b step (λ answer. answers answer c state) (past_limit c state) res (stepped below round children left own) came)

pub came-begun : {C : Type 0} (a b : Account) (left : C → Part) (own : Own) (run : Run Ending) (step : Run (Step (Unit {0}) C)) (c : C) (state : UserState)
    (res : Result (Unit {0}) VarError) → run ≡ (step >>= begun left own) → StepsTo a step b c state res
    → CameTo a run b (λ u. left c (state_of state own)) (past (state_of state own)) res
came-begun a b left own run step c state res is came =
    subst (λ r. CameTo a r b (λ u. left c (state_of state own)) (past (state_of state own)) res) (sym is)
    (came-bind a b step (λ answer. answers answer c state) (past_limit c state) res (begun left own) came)

-- an element is one element
pub same_element : (elements : List Element) (n : ℕ) (d e : Element) → slice_get elements n ≡ Some d → slice_get elements n ≡ Some e → d ≡ e
same_element elements n d e h k = let i : Some d ≡ Some e = sym h ∙ k in cc
