-- How a thread comes through an element and its children.
use Rattle.std.proofs.Common.{◌≡◌, ℕ, zero, suc, ◌+◌, ◌-◌, ◌<◌, ◌≤◌, List, ◌∷◌, length, drop, Option, Some, None, Result, refl, sym, ap, ◌∙◌, arith, add-one}
use Rattle.std.proofs.Math.ListN.{get_or}
use Rattle.std.proofs.Math.Seq.{drop-cons}
use Rattle.std.specs.Prelude.{slice_get}
use Rattle.std.proofs.lemmas.List.{drop_all}
use Rattle.jm_base.specs.declared.errors.NoMemory.{NoMemory}
use Rattle.jm_base.specs.Run.{over}
use Rattle.jm_base.specs.Outside.{Account}
use Rattle.element_tree.specs.declared.kinds.Element.{Element}
use Rattle.jm_meaning.specs.declared.signal.Signal.{Signal}
use Rattle.jm_meaning.specs.declared.signal.Signal.TheVariants.{Normal}
use Rattle.jm_meaning.specs.State.{State, Part, normal, and_then}
use Rattle.jm_meaning.specs.Children.{Below, in_order, one_of}
use Rattle.jm_meaning.specs.Meaning.{Here, meaning, kind_meaning}
use Rattle.plain_run.specs.declared.progress.Progress.{Progress}
use Rattle.plain_run.specs.Plays.{state_in, Plays, Runs}
use Rattle.plain_run.proofs.Ways.{OnWay, way-start, way-over}
use Rattle.plain_run.proofs.UnderWay.{runs-as}

pub plays-nothing : (a : Account) (p : Progress) (part : Part) → part (state_in p) ≡ over (normal (state_in p)) → Plays a p part Normal p a
plays-nothing a p part is = way-over Normal (way-start a p part) is

-- an element by its kind, one level down
meaning-at : (here : Here) (depth number round : ℕ) (s : State) (e : Element) → (depth ≡ 0 → ⊥) → slice_get here.plan.elements number ≡ Some e
    → meaning here depth number round s ≡ kind_meaning here (meaning here (depth - 1)) number e e.kind round s
unfolding meaning
meaning-at here zero number round s e some is = absurd (some refl)
meaning-at here (suc depth) number round s e some is =
    let less : suc depth - 1 ≡ depth = omega arith in
    rw (is, less) refl

pub element-runs : (a b : Account) (p q : Progress) (result : Result Signal NoMemory) (here : Here) (depth number round : ℕ) (o : Option ℕ) (e : Element) → o ≡ Some number → (depth ≡ 0 → ⊥)
    → Some e ≡ slice_get here.plan.elements number → Runs a p (kind_meaning here (meaning here (depth - 1)) number e e.kind round) result q b → Runs a p (one_of (meaning here depth) round o) result q b
element-runs a b p q result here depth number round o e is some there runs =
    runs-as a b p q result (one_of (meaning here depth) round o) (kind_meaning here (meaning here (depth - 1)) number e e.kind round) runs
    (ap (λ o. one_of (meaning here depth) round o (state_in p)) is ∙ meaning-at here depth number round (state_in p) e some (sym there))

pub meaning-none : (here : Here) (depth number round : ℕ) (s : State) → slice_get here.plan.elements number ≡ None → meaning here depth number round s ≡ over (normal s)
unfolding meaning
meaning-none here zero number round s is = refl
meaning-none here (suc depth) number round s is = rw is refl

pub meaning-flat : (here : Here) (depth number round : ℕ) (s : State) → depth ≡ 0 → meaning here depth number round s ≡ over (normal s)
unfolding meaning
meaning-flat here depth number round s is = rw is refl

-- ---- children

prefix : (cs : List ℕ) (i : ℕ) → i < length cs → drop i cs ≡ get_or cs i 0 ∷ drop (i + 1) cs
prefix cs i within = rw (add-one i) (drop-cons cs i 0 within)

pub next-child : (below : Below) (round : ℕ) (cs : List ℕ) (i : ℕ) (s : State) → i < length cs
    → in_order below round (drop i cs) s ≡ and_then (below (get_or cs i 0) round s) (in_order below round (drop (i + 1) cs))
next-child below round cs i s within = ap (λ l. in_order below round l s) (prefix cs i within)

-- no child is left
pub children-over : {a b : Account} {p0 p : Progress} (below : Below) (round : ℕ) (cs : List ℕ) (i : ℕ) → OnWay a p0 (in_order below round cs) (in_order below round (drop i cs)) p b
    → length cs ≤ i → Plays a p0 (in_order below round cs) Normal p b
children-over {p = p} below round cs i way past = way-over Normal way (ap (λ l. in_order below round l (state_in p)) (drop_all i cs past))
