-- A thread of a plan is one of its group's threads.
use Rattle.std.proofs.Common.{◌≡◌, ℕ, zero, suc, ◌+◌, ◌-◌, ◌≤◌, ◌<◌, List, [], ◌∷◌, ◌++◌, length, Option, Some, None, refl, sym, ap, ◌∙◌, subst, arith, length-append, append_assoc}
use Rattle.std.specs.Prelude.{slice_get, unwrap_or}
use Rattle.std.specs.Option.{option_map}
use Rattle.std.specs.List.{AllByRecursion}
use Rattle.std.proofs.lemmas.Option.{slice_get_within}
use Rattle.element_tree.specs.declared.kinds.Element.{Element}
use Rattle.element_tree.specs.declared.kinds.Kind.TheVariants.{ThreadGroup}
use Rattle.element_tree.specs.declared.kinds.Loops.{Loops}
use Rattle.element_props.specs.declared.choices.OnError.{OnError}
use Rattle.element_tree.specs.declared.threads.Thread.{Thread}
use Rattle.element_tree.specs.Threads.{group_size, group_threads, threads_with, threads_from, threads_in}
use Rattle.element_tree.specs.Tree.{Tree, threads_of}
use Rattle.jm_meaning.specs.RampUp.{ramp_up, pause_in, pause_of_thread, pause_of}

-- the thread is one of the threads of the group at its element
pub record IsOneOf (elements : List Element) (t : Thread) : Type 0 where
  pub element : Element
  pub size : ℕ
  pub there : slice_get elements t.element ≡ Some element
  pub sized : group_size element.kind ≡ Some size
  pub first : 1 ≤ t.number
  pub last : t.number ≤ size

pub at_place : {A : Type 0} (P : A → Type 0) (xs : List A) (i : ℕ) (x : A) → AllByRecursion P xs → slice_get xs i ≡ Some x → P x
at_place {A = A} P [] i x all h = absurd (none h) where
  none : slice_get {X = A} [] i ≡ Some x → ⊥
  none h = let w : i < 0 = slice_get_within [] i x h in omega arith
at_place P (y ∷ xs) zero x all h = subst P (same h) all.0 where
  same : slice_get (y ∷ xs) 0 ≡ Some x → y ≡ x
  same h = cc
at_place P (y ∷ xs) (suc i) x all h = at_place P xs i x all.1 h

all_append : {A : Type 0} (P : A → Type 0) (xs ys : List A) → AllByRecursion P xs → AllByRecursion P ys → AllByRecursion P (xs ++ ys)
all_append P [] ys a b = b
all_append P (x ∷ xs) ys a b = (a.0, all_append P xs ys a.1 b)

behind : (prefix : List Element) (e : Element) (es : List Element) → slice_get (prefix ++ e ∷ es) (length prefix) ≡ Some e
behind [] e es = refl
behind (x ∷ prefix) e es = behind prefix e es

of_group : (elements : List Element) (element group n size : ℕ) (e : Element) → slice_get elements element ≡ Some e → group_size e.kind ≡ Some size → n ≤ size
    → AllByRecursion (IsOneOf elements) (group_threads element group n)
of_group elements element group zero size e is sized le = tt
of_group elements element group (suc n) size e is sized le =
    all_append (IsOneOf elements) (group_threads element group n) (record { element = element; group = group; number = suc n } ∷ [])
    (of_group elements element group n size e is sized (omega (arith, le)))
    (record { element = e; size = size; there = is; sized = sized; first = omega arith; last = le }, tt)

of_first : (prefix : List Element) (e : Element) (es : List Element) (group : ℕ) → ((g : ℕ) → AllByRecursion (IsOneOf (prefix ++ e ∷ es)) (threads_from (length prefix + 1) g es))
    → (o : Option ℕ) → group_size e.kind ≡ o → AllByRecursion (IsOneOf (prefix ++ e ∷ es)) (threads_with (length prefix) group o (λ g. threads_from (length prefix + 1) g es))
of_first prefix e es group later None is = later group
of_first prefix e es group later (Some n) is =
    all_append (IsOneOf (prefix ++ e ∷ es)) (group_threads (length prefix) group n) (threads_from (length prefix + 1) (group + 1) es)
    (of_group (prefix ++ e ∷ es) (length prefix) group n n e (behind prefix e es) is (omega arith)) (later (group + 1))

of_elements : (prefix es : List Element) (group : ℕ) → AllByRecursion (IsOneOf (prefix ++ es)) (threads_from (length prefix) group es)
of_elements prefix [] group = tt
of_elements prefix (e ∷ es) group =
    of_first prefix e es group
    (λ g. subst (λ n. AllByRecursion (IsOneOf (prefix ++ e ∷ es)) (threads_from n g es)) (length-append prefix (e ∷ []))
    (subst (λ xs. AllByRecursion (IsOneOf xs) (threads_from (length (prefix ++ e ∷ [])) g es)) (append_assoc prefix (e ∷ []) es) (of_elements (prefix ++ e ∷ []) es g)))
    (group_size e.kind) refl

pub is_one_of : (elements : List Element) (i : ℕ) (t : Thread) → slice_get (threads_in elements) i ≡ Some t → IsOneOf elements t
unfolding threads_in
is_one_of elements i t is = at_place (IsOneOf elements) (threads_from 0 1 elements) i t (of_elements [] elements 1) is

-- the same, where the thread's element is known
module _ (elements : List Element) (i : ℕ) (t : Thread) (is : slice_get (threads_in elements) i ≡ Some t) (e : Element) (there : slice_get elements t.element ≡ Some e)
    (loops : Loops) (on_error : OnError) (ramp threads : ℕ) (kind : e.kind ≡ ThreadGroup loops on_error ramp threads) where
  size_is : (is_one_of elements i t is).size ≡ threads
  size_is =
      let one = is_one_of elements i t is in
      let same : Some one.element ≡ Some e = sym one.there ∙ there in
      let sized : Some one.size ≡ Some threads = sym one.sized ∙ ap (λ o. option_map_size o) same ∙ ap group_size kind in
      some_same sized
    where
      option_map_size : Option Element → Option ℕ
      option_map_size None = None
      option_map_size (Some x) = group_size x.kind

      some_same : {m n : ℕ} → Some m ≡ Some n → m ≡ n
      some_same h = cc

  pub number_first : 1 ≤ t.number
  number_first = (is_one_of elements i t is).first

  pub number_last : t.number ≤ threads
  number_last = subst (λ n. t.number ≤ n) size_is (is_one_of elements i t is).last

pub pause_is : (plan : Tree) (i : ℕ) (t : Thread) → slice_get (threads_of plan) i ≡ Some t → (e : Element) → slice_get plan.elements t.element ≡ Some e
    → (loops : Loops) (on_error : OnError) (ramp threads : ℕ) → e.kind ≡ ThreadGroup loops on_error ramp threads → ramp_up (t.number - 1) threads ramp ≡ pause_of plan i
unfolding pause_of
pause_is plan i t is e there loops on_error ramp threads kind =
    sym (ap (λ o. unwrap_or (option_map (pause_of_thread plan.elements) o) 0) is
    ∙ ap (λ o. unwrap_or (option_map (λ e. pause_in e.kind t.number) o) 0) there
    ∙ ap (λ k. pause_in k t.number) kind)
