-- Where a machine was refused on its way.
use Rattle.std.proofs.Common.{◌≡◌, List, [], ◌∷◌, Some, refl, sym, ap, ◌∙◌, subst}
use Rattle.std.specs.Prelude.{Result, Ok, Err, OnErr, slice_get}
use Rattle.jm_base.specs.Run.{Run, over}
use Rattle.jm_base.specs.Outside.{Account, Goes}
use Rattle.jm_base.proofs.RunLaws.{goes-append, goes-nothing}
use Rattle.element_tree.specs.declared.kinds.Element.{Element}
use Rattle.element_tree.specs.Tree.{Tree}
use Rattle.thread_vars.specs.declared.error.VarError.{VarError}
use Rattle.var_functions.specs.declared.state.UserState.{UserState}
use Rattle.var_functions.specs.Came.{CameTo, Refused}
use Rattle.jm_meaning.specs.declared.signal.Signal.TheVariants.{Normal}
use Rattle.jm_meaning.specs.State.{Own, Ending, state_of, normal}
use Rattle.jm_meaning.specs.Meaning.{Here, meaning, children_in}
use Rattle.jm_meaning.specs.Cut.{StandsLater}
use Rattle.trials.proofs.CutLaws.{refused-left}
use Rattle.open_elements.specs.declared.cursor.Cursor.{Cursor}
use Rattle.open_elements.specs.Cursors.{shut_of}
use Rattle.open_elements.specs.Closing.{closing}
use Rattle.open_elements.specs.ElementCut.{IsCutIn}
use Rattle.control_machine.specs.declared.position.Group.{Group}
use Rattle.control_machine.specs.declared.position.Position.{Position}
use Rattle.control_machine.specs.declared.stack.Frame.{Frame}
use Rattle.control_machine.specs.Left.{Beside, left_in, here_in, own_at, state_at, label_at}
use Rattle.control_machine.specs.Turns.{left_from}
use Rattle.control_machine.specs.MachineCut.{Place, between_turns, left_at, IsCut}
use Rattle.control_machine.proofs.Following.{left_normal}
use Rattle.control_machine.proofs.StackLaws.{left_by, innermost}

-- ---- a machine

-- the run that was refused is what was left at a place
pub cut_at : {a b : Account} (plan : Tree) (run : Beside → Run Ending) (m : Position) (place : Place) (between new : UserState) (limit : Beside → Run Ending) (error : VarError)
    → ((beside : Beside) → run beside ≡ left_at plan m place (state_at m beside between)) → ((beside : Beside) → Refused a (run beside) b (limit beside) error)
    → StandsLater between new → IsCut plan a run b new
cut_at {a} {b} plan run m place between new limit error is refused stands = record {
  machine = m;
  place = place;
  between = between;
  moment = a;
  goes = λ beside. subst (λ r. Goes a (run beside) [] r a) (is beside) (goes-nothing a (run beside));
  stands = stands;
  rest = λ beside. refused-left (subst (λ r. Refused a r b (limit beside) error) (is beside) (refused beside));
}

pub cut_here : {B : Type 0} (a b : Account) (plan : Tree) (m : Position) (place : Place) (between new : UserState) (on : Beside → B → Run Ending) (limit : Beside → Run Ending) (res : Result B VarError)
    → ((beside : Beside) → CameTo a (left_at plan m place (state_at m beside between)) b (on beside) (limit beside) res)
    → StandsLater between new → OnErr res (IsCut plan a (λ beside. left_at plan m place (state_at m beside between)) b new)
cut_here a b plan m place between new on limit (Ok x) came stands = tt
cut_here a b plan m place between new on limit (Err error) came stands =
    cut_at plan (λ beside. left_at plan m place (state_at m beside between)) m place between new limit error (λ beside. refl) came stands

-- the run had come to the one that was cut
pub cut_behind : {a m b : Account} (plan : Tree) (run next : Beside → Run Ending) (new : UserState) → ((beside : Beside) → Goes a (run beside) [] (next beside) m)
    → IsCut plan m next b new → IsCut plan a run b new
cut_behind plan run next new goes cut = record {
  machine = cut.machine;
  place = cut.place;
  between = cut.between;
  moment = cut.moment;
  goes = λ beside. goes-append (goes beside) (cut.goes beside);
  stands = cut.stands;
  rest = cut.rest;
}

-- the run is the one that was cut
pub cut_as : {a b : Account} (plan : Tree) (run next : Beside → Run Ending) (new : UserState) → ((beside : Beside) → run beside ≡ next beside) → IsCut plan a next b new → IsCut plan a run b new
cut_as {a} plan run next new is cut =
    cut_behind plan run next new (λ beside. subst (λ r. Goes a (run beside) [] r a) (is beside) (goes-nothing a (run beside))) cut

-- ---- the innermost open element, in the whole

cut_frame : (here : Here) (g : Group) (f : Frame) (fs : List Frame) (e : Element) (before new : UserState) (own : Own) (cut : IsCutIn e f.cursor before new)
    → slice_get here.plan.elements f.element ≡ Some e
    → left_in here g (f ∷ fs) (over (normal (state_of before own)))
    ≡ left_in here g (record { element = f.element; round = f.round; depth = f.depth; cursor = cut.cursor } ∷ fs) (over (normal (state_of cut.between own)))
cut_frame here g f fs e before new own cut there =
    innermost here g f fs e (state_of before own) there
    ∙ ap (λ t. left_in here g fs (closing (label_at here.plan.elements f.element) t (left_by here f e (state_of before own)))) (sym cut.shut)
    ∙ ap (λ r. left_in here g fs (closing (label_at here.plan.elements f.element) (shut_of cut.cursor) r)) (cut.same (meaning here f.depth) f.round (children_in here e) own)
    ∙ sym (innermost here g (record { element = f.element; round = f.round; depth = f.depth; cursor = cut.cursor }) fs e (state_of cut.between own) there)

-- the machine with the open element as it stood
abbrev pub with_frame : Position → Frame → Cursor → Position
with_frame m f c = record {
  group = m.group;
  stack = record { frames = record { element = f.element; round = f.round; depth = f.depth; cursor = c } ∷ m.stack.frames };
  rounds = m.rounds;
  places = m.places;
  at_failure = m.at_failure;
  signal = m.signal;
  links = m.links;
}

pub cut_inside : {a b : Account} (plan : Tree) (m : Position) (f : Frame) (e : Element) (before new : UserState) (limit : Beside → Run Ending) (error : VarError) → slice_get plan.elements f.element ≡ Some e
    → m.signal ≡ Normal → IsCutIn e f.cursor before new → ((beside : Beside) → Refused a (left_from plan m f (over (normal (state_at m beside before)))) b (limit beside) error)
    → IsCut plan a (λ beside. left_from plan m f (over (normal (state_at m beside before)))) b new
cut_inside plan m f e before new limit error there signal cut refused =
    cut_at plan (λ beside. left_from plan m f (over (normal (state_at m beside before)))) (with_frame m f cut.cursor) between_turns cut.between new limit error
    (λ beside. cut_frame (here_in plan m) m.group f m.stack.frames e before new (own_at m beside) cut there ∙ sym (left_normal plan (with_frame m f cut.cursor) (state_at (with_frame m f cut.cursor) beside cut.between) signal))
    refused cut.stands
