-- The package of a sampler: what it holds, and in which order.
use Rattle.std.proofs.Common.{◌≡◌, ℕ, true, false, List, length, Option, Some, None, refl, sym, ap, subst, ◌∙◌}
use Rattle.std.specs.Prelude.{◌↔◌, IsTrue, unwrap_or}
use Rattle.std.specs.Option.{option_map}
use Rattle.std.specs.List.{AllPairs, Contains, filter}
use Rattle.std.proofs.lemmas.List.Kept.{AllPairs-filter}
use Rattle.element_tree.specs.declared.kinds.Element.{Element}
use Rattle.element_tree.specs.declared.types.Class.{Class}
use Rattle.element_tree.specs.declared.types.Class.TheVariants as classes
use Rattle.element_tree.specs.Types.{is_leaf}
use Rattle.element_tree.specs.Scope.{Scope}
use Rattle.element_tree.specs.Tree.{Tree, IsPlan}
use Rattle.scope_resolver.specs.Scoping.{parent_in, applying_to, AppliesTo, ActsBefore, same_class, class_at, is_of_class, package_of, scope_of, list_of}
use Rattle.scope_resolver.proofs.OrderLaws.{Contains-kept, Contains-before, passes_in, pairs_none}
use Rattle.scope_resolver.proofs.MemberLaws.{applying_applies, applies_applying, applying_in_order}
use Rattle.scope_resolver.proofs.PlanLaws.{root_parent, parent_below}

-- ---- classes

same_class-refl : (a : Class) → same_class a a ≡ true
same_class-refl classes.Root = refl
same_class-refl classes.Group = refl
same_class-refl classes.Controller = refl
same_class-refl classes.Sampler = refl
same_class-refl classes.Config = refl
same_class-refl classes.PreProcessor = refl
same_class-refl classes.Timer = refl
same_class-refl classes.PostProcessor = refl
same_class-refl classes.Assertion = refl
same_class-refl classes.Listener = refl

same_class-true : (a b : Class) → same_class a b ≡ true → b ≡ a
same_class-true classes.Root classes.Root h = refl
same_class-true classes.Group classes.Group h = refl
same_class-true classes.Controller classes.Controller h = refl
same_class-true classes.Sampler classes.Sampler h = refl
same_class-true classes.Config classes.Config h = refl
same_class-true classes.PreProcessor classes.PreProcessor h = refl
same_class-true classes.Timer classes.Timer h = refl
same_class-true classes.PostProcessor classes.PostProcessor h = refl
same_class-true classes.Assertion classes.Assertion h = refl
same_class-true classes.Listener classes.Listener h = refl
same_class-true a b h = cc

of_class_true : (elements : List Element) (class : Class) (n : ℕ) → is_of_class elements class n ≡ true → class_at elements n ≡ Some class
of_class_true elements class n = by_option (class_at elements n) where
  by_option : (o : Option Class) → unwrap_or (option_map (same_class class) o) false ≡ true → o ≡ Some class
  by_option None h = cc
  by_option (Some k) h = ap Some (same_class-true class k h)

true_of_class : (elements : List Element) (class : Class) (n : ℕ) → class_at elements n ≡ Some class → is_of_class elements class n ≡ true
true_of_class elements class n is = ap (λ (o : Option Class). unwrap_or (option_map (same_class class) o) false) is ∙ same_class-refl class

-- ---- a package

-- six lists, each filtered from what applies, make the package
pub as_scope : (elements : List Element) (s : ℕ) (xs a b c d e f : List ℕ) → xs ≡ applying_to elements s
    → a ≡ filter (is_of_class elements classes.Config) xs → b ≡ filter (is_of_class elements classes.PreProcessor) xs
    → c ≡ filter (is_of_class elements classes.Timer) xs → d ≡ filter (is_of_class elements classes.PostProcessor) xs
    → e ≡ filter (is_of_class elements classes.Assertion) xs → f ≡ filter (is_of_class elements classes.Listener) xs
    → record { config = a; pre = b; timers = c; post = d; assertions = e; listeners = f } ≡ scope_of elements s
unfolding package_of
as_scope elements s xs a b c d e f is is_a is_b is_c is_d is_e is_f = cc

module _ (plan : Tree) (is_plan : IsPlan plan) (s : ℕ) where
  abbrev HasMembers : Class → List ℕ → Type 0
  HasMembers class xs = (n : ℕ) → Contains xs n ↔ ((class_at plan.elements n ≡ Some class) × AppliesTo plan.elements n s)

  package_members : (class : Class) → HasMembers class (package_of plan.elements s class)
  unfolding package_of
  package_members class n = (to, from) where
    to : Contains (filter (is_of_class plan.elements class) (applying_to plan.elements s)) n → (class_at plan.elements n ≡ Some class) × AppliesTo plan.elements n s
    to c = (
      of_class_true plan.elements class n (passes_in (is_of_class plan.elements class) n (applying_to plan.elements s) c),
      applying_applies (parent_in plan.elements) (root_parent plan is_plan) (parent_below plan is_plan) (length plan.elements) s n
          (Contains-before (is_of_class plan.elements class) n (applying_to plan.elements s) c),
    )

    from : (class_at plan.elements n ≡ Some class) × AppliesTo plan.elements n s → Contains (filter (is_of_class plan.elements class) (applying_to plan.elements s)) n
    from (is, applies) = Contains-kept (is_of_class plan.elements class) n (true_of_class plan.elements class n is) (applying_to plan.elements s)
        (applies_applying (parent_in plan.elements) (root_parent plan is_plan) (parent_below plan is_plan) (length plan.elements) s n applies)

  package_in_order : (class : Class) → AllPairs (ActsBefore plan.elements) (package_of plan.elements s class)
  unfolding package_of
  package_in_order class = AllPairs-filter (ActsBefore plan.elements) (is_of_class plan.elements class) (applying_to plan.elements s)
      (applying_in_order (parent_in plan.elements) (root_parent plan is_plan) (parent_below plan is_plan) (length plan.elements) s)

  scope_members : (class : Class) → IsTrue (is_leaf class) → HasMembers class (list_of (scope_of plan.elements s) class)
  scope_members classes.Root h = absurd cc
  scope_members classes.Group h = absurd cc
  scope_members classes.Controller h = absurd cc
  scope_members classes.Sampler h = absurd cc
  scope_members classes.Config h = package_members classes.Config
  scope_members classes.PreProcessor h = package_members classes.PreProcessor
  scope_members classes.Timer h = package_members classes.Timer
  scope_members classes.PostProcessor h = package_members classes.PostProcessor
  scope_members classes.Assertion h = package_members classes.Assertion
  scope_members classes.Listener h = package_members classes.Listener

  scope_in_order : (class : Class) → AllPairs (ActsBefore plan.elements) (list_of (scope_of plan.elements s) class)
  scope_in_order classes.Root = pairs_none (ActsBefore plan.elements)
  scope_in_order classes.Group = pairs_none (ActsBefore plan.elements)
  scope_in_order classes.Controller = pairs_none (ActsBefore plan.elements)
  scope_in_order classes.Sampler = pairs_none (ActsBefore plan.elements)
  scope_in_order classes.Config = package_in_order classes.Config
  scope_in_order classes.PreProcessor = package_in_order classes.PreProcessor
  scope_in_order classes.Timer = package_in_order classes.Timer
  scope_in_order classes.PostProcessor = package_in_order classes.PostProcessor
  scope_in_order classes.Assertion = package_in_order classes.Assertion
  scope_in_order classes.Listener = package_in_order classes.Listener

  -- what holds of the package holds of what the code gives
  pub members_of : (p : Scope) → p ≡ scope_of plan.elements s → (class : Class) → IsTrue (is_leaf class) → HasMembers class (list_of p class)
  members_of p is class h = let P : Scope → Type 0 = λ q. HasMembers class (list_of q class) in subst P (sym is) (scope_members class h)

  pub order_of : (p : Scope) → p ≡ scope_of plan.elements s → (class : Class) → AllPairs (ActsBefore plan.elements) (list_of p class)
  order_of p is class = let P : Scope → Type 0 = λ q. AllPairs (ActsBefore plan.elements) (list_of q class) in subst P (sym is) (scope_in_order class)
