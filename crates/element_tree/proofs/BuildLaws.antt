-- From the walk to the plan.
use Rattle.std.proofs.Common.{◌≡◌, ℕ, Bool, false, List, [], ◌++◌, length, None, Result, Ok, Err, IfOk, refl, sym, ap, ◌∙◌, subst}
use Rattle.serde_json.specs.View.{view}
use Rattle.plan_json.specs.Shape.{Raw, members_in}
use Rattle.plan_json.specs.TreeSeen.{raw_view}
use Rattle.plan_json.specs.declared.raw.RawElement.{RawElement, out-RawElement}
use Rattle.element_props.specs.declared.error.BuildError.{BuildError}
use Rattle.jm_base.specs.FaultCounts.{Rose}
use Rattle.element_props.specs.Answers.{IsByPlan}
use Rattle.element_props.specs.Patterns.{Asked}
use Rattle.element_props.specs.declared.error.BuildError.TheVariants.{BadPattern, NoMemory}
use Rattle.element_props.specs.declared.error.PatternFault.TheVariants.{Size}
use Rattle.plan_json.specs.Place.{Place}
use Rattle.element_props.specs.Reads.{Reads, over, refuse, ◌>>=◌, judged, Goes, Fails, Gives}
use Rattle.element_props.proofs.ReadsLaws.{goes_nothing, goes_append, goes_bind, fails_after, fails_bind, fails_first}
use Rattle.element_props.proofs.OwnLaws.{goes_outcome, gives_judged, gives_refused, gives_size}
use Rattle.element_tree.proofs.RefusalLaws.{own_reading}
use Rattle.element_tree.specs.declared.kinds.Element.{Element}
use Rattle.element_tree.specs.Tree.{Tree}
use Rattle.element_tree.specs.Walk.{Spot, elements, counted, walked, reading, root_spot, version_of, props_of, IsWalked, Refuses}
use Rattle.element_tree.proofs.WalkLaws.{raw_seen}

-- where the walk starts
abbrev start : ℕ → List ℕ → Spot
start version places = record { above = None; depth = 1; inside = false; parent = 0; places = places; version = version }

root_props : (r : RawElement) → props_of (raw_view r) ≡ members_in (view (out-RawElement r).props)
root_props r = ap props_of (raw_seen r)

module _ (r : RawElement) (version : ℕ) (places : List ℕ) (old : List Element) (is : version ≡ version_of (members_in (view (out-RawElement r).props))) (no_places : places ≡ []) (none_old : old ≡ []) (a b : Asked) where
  start_is : start version places ≡ root_spot (version_of (props_of (raw_view r)))
  start_is = rw (no_places, is, ← root_props r) refl

  pub walk_refuses : (e : BuildError) → Fails a (elements (start version places) (length old) (raw_view r)) e b → Fails a (reading (raw_view r)) e b
  unfolding reading walked
  walk_refuses e s =
      let at_zero = rw none_old at s in
      let P : Spot → Type 0 = λ spot. Fails a (elements spot 0 (raw_view r)) e b in
      fails_bind counted (subst P start_is at_zero)

  pub walk_done : (new xs : List Element) → new ≡ old ++ xs → Goes a (elements (start version places) (length old) (raw_view r)) (over xs) b → Goes a (walked (raw_view r)) (over new) b
  unfolding walked
  walk_done new xs added g =
      let at_zero = rw none_old at g in
      let P : Spot → Type 0 = λ spot. Goes a (elements spot 0 (raw_view r)) (over xs) b in
      let Q : List Element → Type 0 = λ ys. Goes a (elements (root_spot (version_of (props_of (raw_view r)))) 0 (raw_view r)) (over ys) b in
      subst Q (sym (rw none_old at added)) (subst P start_is at_zero)

pub is_walked : (r : RawElement) (a b : Asked) (new : List Element) → Goes a (walked (raw_view r)) (over new) b → IsWalked new
is_walked r a b new g = (raw_view r, goes_outcome g)

pub plan_done : (r : RawElement) (a b : Asked) (new : List Element) (plan : Tree) → Goes a (walked (raw_view r)) (over new) b → counted new ≡ over plan → Goes a (reading (raw_view r)) (over plan) b
unfolding reading
plan_done r a b new plan g h = goes_append (goes_bind counted g) (rw h (goes_nothing b _))

pub plan_refuses : (r : RawElement) (a b : Asked) (new : List Element) (e : BuildError) → Goes a (walked (raw_view r)) (over new) b → ((e ≡ NoMemory → ⊥) → counted new ≡ refuse e) → Fails a (reading (raw_view r)) e b
unfolding reading
plan_refuses r a b new e g h = fails_after (goes_bind counted g) (fails_first b _ e h)

-- ---- what the answer says

module _ (tree : Raw) (a b : Asked) (result : Result Tree BuildError) (g : Gives (λ (p : Tree). p) a (reading tree) result b) where
  pub read_ok : IfOk result (λ plan. judged (reading tree) ≡ Ok plan)
  read_ok = gives_judged (λ (p : Tree). p) a b (reading tree) result g

  pub read_refused : (e : BuildError) → result ≡ Err e → IsByPlan e → judged (reading tree) ≡ Err e
  read_refused e h by = gives_refused (λ (p : Tree). p) a b (reading tree) result e g h by

  pub read_size : (p : Place) → result ≡ Err (BadPattern p Size) → Rose a.oversize b.oversize
  read_size p h = gives_size (λ (p : Tree). p) a b (reading tree) result p (own_reading tree) g h

exactly : (tree : Raw) (e : BuildError) (result : Result Tree BuildError) → IfOk result (λ plan. judged (reading tree) ≡ Ok plan) → ((r : BuildError) → result ≡ Err r → IsByPlan r → judged (reading tree) ≡ Err r)
    → judged (reading tree) ≡ Err e → Refuses result e
exactly tree e (Ok plan) ok refused h = let f : ◌≡◌ {A = Result Tree BuildError} (Ok plan) (Err e) = sym ok ∙ h in cc
exactly tree e (Err r) ok refused h = λ by. let f : ◌≡◌ {A = Result Tree BuildError} (Err r) (Err e) = sym (refused r refl by) ∙ h in cc

pub read_exactly : (tree : Raw) (a b : Asked) (result : Result Tree BuildError) → Gives (λ (p : Tree). p) a (reading tree) result b → (e : BuildError) → judged (reading tree) ≡ Err e → Refuses result e
read_exactly tree a b result g e h = exactly tree e result (read_ok tree a b result g) (read_refused tree a b result g) h
