-- Calls of cursors that go by the element that is there.
use Rattle.std.proofs.Common.{◌≡◌, ℕ, List, Option, Some, sym, ap, ◌∙◌, subst}
use Rattle.jm_base.specs.Run.{Run, ◌>>=◌}
use Rattle.element_tree.specs.declared.kinds.Element.{Element}
use Rattle.element_tree.specs.declared.kinds.Kind.{Kind}
use Rattle.element_tree.specs.declared.package.Turn.{Turn}
use Rattle.var_functions.specs.declared.state.UserState.{UserState}
use Rattle.cursor_steps.specs.CursorStep.{Step, at_element}
use Rattle.jm_meaning.specs.State.{State, Own, Ending, Part}
use Rattle.jm_meaning.specs.Children.{Below}
use Rattle.jm_meaning.specs.Meaning.{Here, kind_meaning}
use Rattle.open_elements.specs.Moves.{stepped, stepping, begun, beginning}

-- a run goes on as the entry of a cursor says
pub begins-at : {C : Type 0} (run : Run Ending) (found : Option Element) (e : Element) (c : C) (user : UserState) (next : Element → Run (Step (Unit {0}) C)) (left : C → Part) (own : Own)
    → found ≡ Some e → run ≡ (next e >>= begun left own) → run ≡ beginning left own (at_element found c user next)
begins-at run found e c user next left own there same = subst (λ o. run ≡ beginning left own (at_element o c user next)) (sym there) same

-- what an element means goes on so
pub enters-at : {C : Type 0} (here : Here) (below : Below) (n : ℕ) (e : Element) (k : Kind) (round : ℕ) (s : State) (found : Option Element) (c : C) (next : Element → Run (Step (Unit {0}) C)) (left : C → Part)
    → e.kind ≡ k → found ≡ Some e → kind_meaning here below n e k round s ≡ (next e >>= begun left s.own)
    → kind_meaning here below n e e.kind round s ≡ beginning left s.own (at_element found c s.user next)
enters-at here below n e k round s found c next left is there same =
    begins-at (kind_meaning here below n e e.kind round s) found e c s.user next left s.own there (ap (λ k. kind_meaning here below n e k round s) is ∙ same)

-- what is left goes on as its cursor's turn says
pub turns-at : {C : Type 0} (part : Run Ending) (below : Below) (round : C → ℕ) (children : List ℕ) (left : C → Part) (own : Own) (found : Option Element) (e : Element) (c : C) (user : UserState)
    (next : Element → Run (Step Turn C)) → found ≡ Some e → part ≡ (next e >>= stepped below round children left own)
    → part ≡ stepping below round children left own (at_element found c user next)
turns-at part below round children left own found e c user next there same =
    subst (λ o. part ≡ stepping below round children left own (at_element o c user next)) (sym there) same
