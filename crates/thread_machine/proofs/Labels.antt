-- The label of a sampler or a transaction is one of the plan's labels, and the lock of a section one of its locks.
use Rattle.std.proofs.Common.{◌≡◌, ℕ, zero, suc, ◌≤◌, ◌<◌, Bool, true, false, List, [], ◌∷◌, ◌++◌, length, Option, Some, None, refl, sym, ap, ◌∙◌, subst, arith, length-append}
use Rattle.std.specs.Prelude.{slice_get, unwrap_or, position, if◌then◌else◌}
use Rattle.std.specs.List.{filter_map, list_any}
use Rattle.std.proofs.lemmas.List.Quantifiers.{position-Some}
use Rattle.std.proofs.lemmas.Option.{slice_get_within}
use Rattle.jm_base.specs.Outside.{same_bytes}
use Rattle.jm_base.specs.Run.{Giver, Sampler, Transaction}
use Rattle.element_tree.specs.declared.kinds.Element.{Element}
use Rattle.element_tree.specs.declared.kinds.Kind.{Kind}
use Rattle.element_tree.specs.declared.kinds.Kind.TheVariants as kinds
use Rattle.element_tree.specs.declared.types.Class.TheVariants as classes
use Rattle.element_tree.specs.Types.{class_of}
use Rattle.open_elements.specs.Entering.{IsSamplerKind}
use Rattle.control_machine.specs.Left.{IsLock}
use Rattle.thread_machine.specs.Stepped.{IsKindOf}
use Rattle.element_tree.specs.Names.{gives_samples, sample_name, lock_of_kind, lock_name, with_text, distinct_after, labels_of, label_of, locks_of, lock_of}

no_fewer : (seen : List (List ℕ)) (x : List ℕ) → length seen ≤ length (with_text seen x)
no_fewer seen x = by_test (list_any (same_bytes x) seen) where
  by_test : (b : Bool) → length seen ≤ length (if b then seen else seen ++ x ∷ [])
  by_test true = omega arith
  by_test false = omega (arith, length-append seen (x ∷ []))

none_lost : (seen xs : List (List ℕ)) → length seen ≤ length (distinct_after seen xs)
none_lost seen [] = omega arith
none_lost seen (x ∷ xs) =
    let a = no_fewer seen x in
    let b = none_lost (with_text seen x) xs in
    omega arith

some_distinct : (xs : List (List ℕ)) → 1 ≤ length xs → 1 ≤ length (distinct_after [] xs)
some_distinct [] h = absurd (omega arith)
some_distinct (x ∷ xs) h = none_lost (x ∷ []) xs

-- an element has a name of this sort
named : (name : Element → Option (List ℕ)) (elements : List Element) (n : ℕ) (e : Element) (x : List ℕ) → slice_get elements n ≡ Some e → name e ≡ Some x → 1 ≤ length (filter_map name elements)
named name [] n e x h is = absurd (let w : n < 0 = slice_get_within [] n e h in omega arith)
named name (y ∷ ys) zero e x h is = here (name y) (ap name (first h) ∙ is) where
  first : slice_get (y ∷ ys) 0 ≡ Some e → y ≡ e
  first h = cc

  here : (o : Option (List ℕ)) → o ≡ Some x → 1 ≤ length (filter_map name (y ∷ ys))
  here o is' = let s : name y ≡ Some x = ap name (first h) ∙ is in rw s (omega arith)
named name (y ∷ ys) (suc n) e x h is = behind (name y) refl (named name ys n e x h is) where
  behind : (o : Option (List ℕ)) → name y ≡ o → 1 ≤ length (filter_map name ys) → 1 ≤ length (filter_map name (y ∷ ys))
  behind None is' later = rw is' later
  behind (Some z) is' later = rw is' (omega arith)

within : (p : List ℕ → Bool) (xs : List (List ℕ)) → 1 ≤ length xs → unwrap_or (position p xs) 0 < length xs
within p xs some = by_place (position p xs) refl where
  by_place : (o : Option ℕ) → position p xs ≡ o → unwrap_or o 0 < length xs
  by_place None is = some
  by_place (Some i) is = (position-Some p xs i [] is).0

-- a sampler gives samples
gives_by_class : (k : Kind) → class_of k ≡ classes.Sampler → gives_samples k ≡ true
gives_by_class (kinds.Script replies request) h = refl
gives_by_class (kinds.Http body host method params path port replies) h = refl
gives_by_class k h = absurd (cc)

-- and so does a transaction
gives_by : (giver : Giver) (k : Kind) → IsKindOf giver k → gives_samples k ≡ true
gives_by Sampler k h = gives_by_class k h
gives_by Transaction k h = ap gives_samples h

pub label_within : (elements : List Element) (n : ℕ) (e : Element) (giver : Giver) → slice_get elements n ≡ Some e → IsKindOf giver e.kind
    → label_of elements e.name < length (labels_of elements)
unfolding labels_of
label_within elements n e giver there kind_is =
    let name : sample_name e ≡ Some e.name = ap (λ b. if b then Some e.name else None) (gives_by giver e.kind kind_is) in
    within (same_bytes e.name) _ (some_distinct _ (named sample_name elements n e e.name there name))

-- samplers are of the class of samplers
pub sampler_class : (k : Kind) → IsSamplerKind k → class_of k ≡ classes.Sampler
sampler_class (kinds.Script replies request) h = refl
sampler_class (kinds.Http body host method params path port replies) h = refl
sampler_class k h = absurd h

-- the lock of a section
pub lock_within : (elements : List Element) (lock : ℕ) → IsLock elements lock → lock < length (locks_of elements)
unfolding locks_of
lock_within elements lock l =
    let name : lock_name l.element ≡ Some l.name = ap lock_of_kind l.kind in
    let few : lock_of elements l.name < length (locks_of elements) = within (same_bytes l.name) _ (some_distinct _ (named lock_name elements l.number l.element l.name l.there name)) in
    subst (λ k. k < length (locks_of elements)) (sym l.lock_is) few
