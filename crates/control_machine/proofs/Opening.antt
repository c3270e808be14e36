-- An element that is opened is what it means.
use Rattle.std.proofs.Common.{◌≡◌, ℕ, zero, suc, ◌-◌, ◌≤◌, Bool, true, List, Some, refl, sym, subst, arith}
use Rattle.std.specs.Prelude.{not, ◌&&◌, ◌||◌, slice_get}
use Rattle.std.specs.List.{AllByRecursion}
use Rattle.element_tree.specs.Types.{is_section}
use Rattle.element_tree.specs.Tree.{Nests, Apart}
use Rattle.element_tree.specs.declared.kinds.Element.{Element}
use Rattle.jm_meaning.specs.State.{State}
use Rattle.jm_meaning.specs.Meaning.{Here, meaning, kind_meaning}

meant_one : (here : Here) (i n round : ℕ) (s : State) (e : Element) → slice_get here.plan.elements n ≡ Some e
    → meaning here (suc i) n round s ≡ kind_meaning here (meaning here i) n e e.kind round s
unfolding meaning
meant_one here i n round s e there = rw there refl

-- the meaning of an element by its kind
pub meant : (here : Here) (depth n round : ℕ) (s : State) (e : Element) → 1 ≤ depth → slice_get here.plan.elements n ≡ Some e
    → meaning here depth n round s ≡ kind_meaning here (meaning here (depth - 1)) n e e.kind round s
meant here depth n round s e some there =
    let is : depth ≡ suc (depth - 1) = omega arith in
    subst (λ d. meaning here d n round s ≡ kind_meaning here (meaning here (depth - 1)) n e e.kind round s) (sym is) (meant_one here (depth - 1) n round s e there)

-- what nests that deep is there, and what is below it nests less deep
pub record NestsAt (elements : List Element) (depth n : ℕ) : Type 0 where
  pub element : Element
  pub some : 1 ≤ depth
  pub there : slice_get elements n ≡ Some element
  pub below : AllByRecursion (Nests (depth - 1) elements) element.children

pub nests_at : (elements : List Element) (depth n : ℕ) → Nests depth elements n → NestsAt elements depth n
unfolding Nests
nests_at elements zero n h = absurd h
nests_at elements (suc i) n h = record { element = h.0; some = omega arith; there = h.1; below = rw (one_less i) h.2 } where
  one_less : (i : ℕ) → suc i - 1 ≡ i
  one_less i = omega arith

-- what stands there is no critical section inside another one, and neither is what is below it
pub record ApartAt (elements : List Element) (depth n : ℕ) (inside : Bool) : Type 0 where
  pub element : Element
  pub there : slice_get elements n ≡ Some element
  pub free : not (inside && is_section element.kind) ≡ true
  pub below : AllByRecursion (Apart (depth - 1) (inside || is_section element.kind) elements) element.children

pub apart_at : (elements : List Element) (depth n : ℕ) (inside : Bool) → Apart depth inside elements n → ApartAt elements depth n inside
unfolding Apart
apart_at elements zero n inside h = absurd h
apart_at elements (suc i) n inside h = record { element = h.0; there = h.1; free = h.2; below = rw (one_less i) h.3 } where
  one_less : (i : ℕ) → suc i - 1 ≡ i
  one_less i = omega arith
