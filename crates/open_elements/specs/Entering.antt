-- What an element that was entered goes on as.
use Rattle.std.specs.Prelude.{◌≡◌, ℕ, List, Some, length, slice_get, Result, IfOk, OnErr}
use Rattle.jm_base.specs.Outside.{Account}
use Rattle.jm_base.specs.Run.{Run, over, give, Entered as EnteredEvent}
use Rattle.element_tree.specs.declared.kinds.Element.{Element}
use Rattle.element_tree.specs.declared.kinds.Kind.{Kind}
use Rattle.element_tree.specs.declared.kinds.Kind.TheVariants.{Script, Http}
use Rattle.element_tree.specs.Tree.{Tree}
use Rattle.thread_vars.specs.declared.error.VarError.{VarError}
use Rattle.var_functions.specs.declared.state.UserState.{UserState}
use Rattle.var_functions.specs.Came.{CameTo}
use Rattle.sampler_pipeline.specs.SamplerPipeline.{label_at}
use Rattle.jm_meaning.specs.declared.signal.Signal.{Signal}
use Rattle.jm_meaning.specs.State.{State, Own, Ending, Part, normal, state_of, at_places, with_unit}
use Rattle.jm_meaning.specs.Children.{Below, children_of}
use Rattle.jm_meaning.specs.Sampling.{sampling}
use Rattle.jm_meaning.specs.Meaning.{Here, children_in, kind_meaning}
use Rattle.jm_meaning.specs.Cut.{StandsLater}
use Rattle.open_elements.specs.declared.entering.Entered.{Entered}
use Rattle.open_elements.specs.declared.entering.Entered.TheVariants.{Nothing, Sampler, Open}
use Rattle.open_elements.specs.Moves.{past}
use Rattle.open_elements.specs.Cursors.{cursor_left, Shut, Plain, Summing, Leaving, shut_of, begun_of, FitsKind}
use Rattle.open_elements.specs.Closing.{closing, KeepsLock}

-- a thread of this plan whose failed samples lead to this signal
abbrev pub here_with : Tree → Signal → Here
here_with plan failure = record { plan = plan; at_failure = failure }

-- a section takes a unit and is entered, and then comes the part; the other elements go on with the part
abbrev pub opening : Shut → Part → Part
opening Plain part s = part s
opening (Summing tally) part s = part s
opening (Leaving lock) part s = with_unit s (λ s. give (EnteredEvent lock) (part s))

-- a sampler by its number
abbrev pub kind_part : Here → ℕ → Element → Kind → Part
kind_part here number e (Script replies request) s = with_unit s (sampling here.plan.elements number here.at_failure)
kind_part here number e (Http body host method params path port replies) s = with_unit s (sampling here.plan.elements number here.at_failure)
kind_part here number e kind s = over (normal s)

abbrev pub entered : Here → Below → ℕ → ℕ → Element → State → Entered → Run Ending
entered here below n round e s Nothing = over (normal s)
entered here below n round e s Sampler = kind_part here n e e.kind s
entered here below n round e s (Open c) =
    opening (shut_of c) (λ s. closing (label_at here.plan.elements n) (shut_of c) (cursor_left below round (children_in here e) e c s)) s

abbrev pub IsSamplerKind : Kind → Type 0
IsSamplerKind (Script replies request) = Unit {0}
IsSamplerKind (Http body host method params path port replies) = Unit {0}
IsSamplerKind kind = ⊥

-- what stands after it
abbrev pub EnteredFits : ℕ → ℕ → Kind → Entered → Type 0
EnteredFits n count k Nothing = Unit {0}
EnteredFits n count k Sampler = IsSamplerKind k
EnteredFits n count k (Open c) = FitsKind n count k c × (begun_of c ≡ 0)

-- a section that is entered keeps the lock of its element
abbrev pub EntersLock : List Element → Kind → Entered → Type 0
EntersLock elements k Nothing = Unit {0}
EntersLock elements k Sampler = Unit {0}
EntersLock elements k (Open c) = KeepsLock elements k (shut_of c)

-- Between two moments of the outside the element of this number was entered: what it means has come to what it goes on as, which
-- fits the element; a section keeps the lock of its element. No variable is set, functions stand at a later moment, and a refusal
-- leaves the places of the Interleave Controllers as they were.
pub record HasEntered (plan : Tree) (child : ℕ) (before : Account) (old : UserState) (old_places : List ℕ) (after : Account) (new : UserState) (new_places : List ℕ) (result : Result Entered VarError) : Type 0 where
  pub came : (e : Element) (failure : Signal) (below : Below) (round : ℕ) (own : Own) → slice_get plan.elements child ≡ Some e
      → CameTo before (kind_meaning (here_with plan failure) below child e e.kind round (state_of old (at_places own old_places))) after
      (entered (here_with plan failure) below child round e (state_of new (at_places own new_places))) (past (state_of new (at_places own new_places))) result
  pub fits : IfOk result (λ x. (e : Element) → slice_get plan.elements child ≡ Some e → EnteredFits child (length (children_of plan.elements e)) e.kind x)
  pub lock : IfOk result (λ x. (e : Element) → slice_get plan.elements child ≡ Some e → EntersLock plan.elements e.kind x)
  pub stands : StandsLater old new
  pub places : OnErr result (new_places ≡ old_places)
