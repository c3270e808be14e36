-- The packages that are kept for the elements of a plan.
use Rattle.std.proofs.Common.{◌≡◌, ℕ, zero, suc, ◌+◌, ◌<◌, ◌≤◌, Bool, true, false, ◌&&◌, cond, List, [], ◌∷◌, ◌++◌, length, get_or, set, map, Option, Some, None, refl, sym, ap, subst, ◌∙◌, true≢false, zero-add, arith}
use Rattle.std.specs.Prelude.{slice_get, unwrap_or, nat_lt, IsTrue}
use Rattle.std.specs.Option.{option_map, option_and_then}
use Rattle.std.specs.List.{AllByRecursion, filter, flat_map, range_with_len}
use Rattle.std.proofs.lemmas.List.{append-nil, get_or_past}
use Rattle.std.proofs.lemmas.List.Concat.{flat_map-append}
use Rattle.std.proofs.lemmas.List.Elements.{filter-append}
use Rattle.std.proofs.lemmas.Bool.{ltb-true, and_parts}
use Rattle.std.proofs.lemmas.Bool.Decides.{nat_tests}
use Rattle.std.proofs.lemmas.List.FromFn.{get_or-map-range_with_len, length-map-range_with_len}
use Rattle.std.proofs.lemmas.Option.{slice_get_within, slice_get_read}
use Rattle.element_tree.specs.declared.kinds.Element.{Element}
use Rattle.element_tree.specs.declared.types.Class.{Class}
use Rattle.element_tree.specs.declared.types.Class.TheVariants as classes
use Rattle.element_tree.specs.Scope.{Scope}
use Rattle.element_tree.specs.Tree.{Tree, IsPlan, IsBelow}
use Rattle.element_tree.specs.Types.{class_of, may_stand, is_root, is_group, is_leaf}
use Rattle.scope_resolver.specs.Ancestry.{line, hanging_by, applying_by}
use Rattle.scope_resolver.specs.Scoping.{parent_in, line_to, hanging_on, same_class, class_at, is_of_class, package_of, scope_of}
use Rattle.scope_resolver.proofs.PlanLaws.{parent_read, parent_before, up_step}
use Rattle.node_table.specs.declared.hanging.Hanging.{Hanging}
use Rattle.node_table.specs.Building.{hanging_of, AreHanging, IsHanging, no_scope, with_hanging}
use Rattle.node_table.specs.KeptPackages.{kept_of, packages_of, package_at}
use Rattle.node_table.proofs.HangingLists.{HungBelow, hung_more, hung_left}

-- ---- what hangs on each element

abbrev pub HungTo : List Element → Class → ℕ → List (List ℕ) → Type 0
HungTo elements class k lists = HungBelow (parent_in elements) (is_of_class elements class) (length elements) k lists

pub all_hung : (elements : List Element) (class : Class) (k : ℕ) (lists : List (List ℕ)) → k ≡ length elements → HungTo elements class k lists → AreHanging elements class lists
unfolding hanging_by
all_hung elements class k lists is l =
    let P : ℕ → Type 0 = λ m. HungTo elements class m lists in
    let all = subst P is l in
    record { count = all.long; each = all.each }

pub class_read : (elements : List Element) (n : ℕ) (e : Element) → slice_get elements n ≡ Some e → class_at elements n ≡ Some (class_of e.kind)
class_read elements n e is = ap (option_map (λ (x : Element). class_of x.kind)) is

of_class_read : (elements : List Element) (class : Class) (n : ℕ) (e : Element) → slice_get elements n ≡ Some e → is_of_class elements class n ≡ same_class class (class_of e.kind)
of_class_read elements class n e is = ap (λ (o : Option Class). unwrap_or (option_map (same_class class) o) false) (class_read elements n e is)

element_there : (elements all : List Element) (n : ℕ) (e : Element) → all ≡ elements → n < length all → e ≡ get_or all n e → slice_get elements n ≡ Some e
element_there elements all n e same there is =
    let there_n : n < length elements = omega (arith, ap length same) in
    slice_get_read elements (length elements) n e refl there_n (is ∙ ap (λ (xs : List Element). get_or xs n e) same)

pub hangs_step : (elements all : List Element) (class : Class) (n : ℕ) (e : Element) (b : Bool) (lists now more : List (List ℕ)) → all ≡ elements → n < length all → e ≡ get_or all n e
    → b ≡ (nat_lt 0 n && same_class class (class_of e.kind)) → b ≡ true → now ≡ more → more ≡ set lists e.parent (get_or lists e.parent [] ++ n ∷ []) → HungTo elements class n lists → HungTo elements class (n + 1) now
hangs_step elements all class n e b lists now more same there is test answer joined put l =
    let e_there = element_there elements all n e same there is in
    let parts = and_parts (nat_lt 0 n) (same_class class (class_of e.kind)) (sym test ∙ answer) in
    hung_more (parent_in elements) (is_of_class elements class) (length elements) n e.parent lists now (sym (parent_read elements n e e_there)) parts.0 (of_class_read elements class n e e_there ∙ parts.1) (joined ∙ put) l

pub hangs_not : (elements all : List Element) (class : Class) (n : ℕ) (e : Element) (b : Bool) (lists now : List (List ℕ)) → all ≡ elements → n < length all → e ≡ get_or all n e
    → b ≡ (nat_lt 0 n && same_class class (class_of e.kind)) → b ≡ false → now ≡ lists → HungTo elements class n lists → HungTo elements class (n + 1) now
hangs_not elements all class n e b lists now same there is test answer joined l =
    let P : List (List ℕ) → Type 0 = λ xs. HungTo elements class (n + 1) xs in
    subst P (sym joined) (hung_left (parent_in elements) (is_of_class elements class) (length elements) n lists
    (ap (λ (t : Bool). nat_lt 0 n && t) (of_class_read elements class n e (element_there elements all n e same there is)) ∙ sym test ∙ answer) l)

-- ---- the class above

beside_leaf : (a b c : Bool) → cond a false (cond b false (cond c false false)) ≡ true → ⊥
beside_leaf true b c h = true≢false (sym h)
beside_leaf false true c h = true≢false (sym h)
beside_leaf false false true h = true≢false (sym h)
beside_leaf false false false h = true≢false (sym h)

-- what has an element below it is no leaf
above_inner : (a c : Class) → IsTrue (may_stand (Some a) c) → is_leaf a ≡ false
above_inner classes.Root c h = refl
above_inner classes.Group c h = refl
above_inner classes.Controller c h = refl
above_inner classes.Sampler c h = refl
above_inner classes.Config c h = absurd (beside_leaf (is_root c) (is_group c) (is_leaf c) h)
above_inner classes.PreProcessor c h = absurd (beside_leaf (is_root c) (is_group c) (is_leaf c) h)
above_inner classes.Timer c h = absurd (beside_leaf (is_root c) (is_group c) (is_leaf c) h)
above_inner classes.PostProcessor c h = absurd (beside_leaf (is_root c) (is_group c) (is_leaf c) h)
above_inner classes.Assertion c h = absurd (beside_leaf (is_root c) (is_group c) (is_leaf c) h)
above_inner classes.Listener c h = absurd (beside_leaf (is_root c) (is_group c) (is_leaf c) h)

all_get : {A : Type 0} (P : A → Type 0) (xs : List A) (i : ℕ) (x : A) → AllByRecursion P xs → slice_get xs i ≡ Some x → P x
all_get P [] i x h k = cc
all_get P (y ∷ xs) zero x h k = let same : y ≡ x = cc in subst P same h.0
all_get P (y ∷ xs) (suc i) x h k = all_get P xs i x h.1 k

-- ---- a package over the one above

-- what passes a test, along a line that is one longer
longer_line : (h : ℕ → List ℕ) (test : ℕ → Bool) (whole above : List ℕ) (n : ℕ) → whole ≡ above ++ n ∷ [] → filter test (flat_map h whole) ≡ filter test (flat_map h above) ++ filter test (h n)
longer_line h test whole above n is =
    ap (λ (xs : List ℕ). filter test (flat_map h xs)) is ∙ ap (filter test) (flat_map-append h above (n ∷ [])) ∙ filter-append test (flat_map h above) (flat_map h (n ∷ []))
    ∙ ap (λ (xs : List ℕ). filter test (flat_map h above) ++ filter test xs) (append-nil (h n))

same_scope : (a b c d e f a' b' c' d' e' f' : List ℕ) → a ≡ a' → b ≡ b' → c ≡ c' → d ≡ d' → e ≡ e' → f ≡ f'
    → ◌≡◌ {A = Scope} (record { config = a; pre = b; timers = c; post = d; assertions = e; listeners = f }) (record { config = a'; pre = b'; timers = c'; post = d'; assertions = e'; listeners = f' })
same_scope a b c d e f a' b' c' d' e' f' p q r s t u = cc

module _ (plan : Tree) (is_plan : IsPlan plan) where
  parent_inner : (n : ℕ) (e : Element) → slice_get plan.elements n ≡ Some e → 0 < n
      → option_and_then (λ class. cond (is_leaf class) None (Some (scope_of plan.elements e.parent))) (class_at plan.elements e.parent) ≡ Some (scope_of plan.elements e.parent)
  parent_inner n e there h =
      let c = (is_plan.stands n e there).parent h in
      let b = all_get (IsBelow plan.elements e.parent c.above) c.above.children c.place n (is_plan.stands e.parent c.above c.there).children c.among in
      let inner = above_inner (class_of c.above.kind) (class_of b.element.kind) b.place in
      ap (option_and_then (λ (class : Class). cond (is_leaf class) None (Some (scope_of plan.elements e.parent)))) (class_read plan.elements e.parent c.above c.there)
      ∙ ap (λ (l : Bool). cond l None (Some (scope_of plan.elements e.parent))) inner

  package_below : (class : Class) (n : ℕ) → 0 < n → package_of plan.elements n class ≡ package_of plan.elements (parent_in plan.elements n) class ++ hanging_of plan.elements class n
  unfolding package_of applying_by
  package_below class n h =
      longer_line (hanging_on plan.elements) (is_of_class plan.elements class) (line_to plan.elements n) (line_to plan.elements (parent_in plan.elements n)) n
      (up_step plan is_plan n (parent_in plan.elements n) [] (n ∷ []) (line_to plan.elements n) h refl refl (sym (append-nil (line_to plan.elements n))))

  package_top : (class : Class) → package_of plan.elements 0 class ≡ hanging_of plan.elements class 0
  unfolding package_of applying_by line
  package_top class = ap (filter (is_of_class plan.elements class)) (append-nil (hanging_on plan.elements 0))

  scope_below : (hanging : Hanging) (n p : ℕ) → IsHanging plan.elements hanging → n < length plan.elements → 0 < n → parent_in plan.elements n ≡ p
      → with_hanging (scope_of plan.elements p) hanging n ≡ scope_of plan.elements n
  scope_below hanging n p hangs there h is =
      same_scope _ _ _ _ _ _ _ _ _ _ _ _
      (one classes.Config hanging.config hangs.config) (one classes.PreProcessor hanging.pre hangs.pre) (one classes.Timer hanging.timers hangs.timers)
      (one classes.PostProcessor hanging.post hangs.post) (one classes.Assertion hanging.assertions hangs.assertions) (one classes.Listener hanging.listeners hangs.listeners) where
        one : (class : Class) (lists : List (List ℕ)) → AreHanging plan.elements class lists → package_of plan.elements p class ++ get_or lists n [] ≡ package_of plan.elements n class
        one class lists l =
            ap (λ (xs : List ℕ). package_of plan.elements p class ++ xs) (l.each n there)
            ∙ ap (λ (m : ℕ). package_of plan.elements m class ++ hanging_of plan.elements class n) (sym is) ∙ sym (package_below class n h)

  scope_top : (hanging : Hanging) → IsHanging plan.elements hanging → 0 < length plan.elements → with_hanging no_scope hanging 0 ≡ scope_of plan.elements 0
  scope_top hanging hangs there =
      same_scope _ _ _ _ _ _ _ _ _ _ _ _
      (one classes.Config hanging.config hangs.config) (one classes.PreProcessor hanging.pre hangs.pre) (one classes.Timer hanging.timers hangs.timers)
      (one classes.PostProcessor hanging.post hangs.post) (one classes.Assertion hanging.assertions hangs.assertions) (one classes.Listener hanging.listeners hangs.listeners) where
        one : (class : Class) (lists : List (List ℕ)) → AreHanging plan.elements class lists → get_or lists 0 [] ≡ package_of plan.elements 0 class
        one class lists l = l.each 0 there ∙ sym (package_top class)

  -- ---- what is kept

  inner_is : (n : ℕ) (e : Element) → slice_get plan.elements n ≡ Some e → is_leaf (class_of e.kind) ≡ false → Some (scope_of plan.elements n) ≡ kept_of plan.elements n
  inner_is n e there leaf =
      sym (ap (option_and_then (λ (class : Class). cond (is_leaf class) None (Some (scope_of plan.elements n)))) (class_read plan.elements n e there)
      ∙ ap (λ (l : Bool). cond l None (Some (scope_of plan.elements n))) leaf)

  pub inner_kept : (packages : List (Option Scope)) (hanging : Hanging) (n : ℕ) (e : Element) (p : Scope) → packages ≡ map (kept_of plan.elements) (range_with_len 0 n) → IsHanging plan.elements hanging
      → slice_get plan.elements n ≡ Some e → is_leaf (class_of e.kind) ≡ false → p ≡ with_hanging (unwrap_or (package_at packages e.parent) no_scope) hanging n → Some p ≡ kept_of plan.elements n
  inner_kept packages hanging zero e p is hangs there inner made =
      let none : package_at packages e.parent ≡ None = ap (λ (xs : List (Option Scope)). package_at xs e.parent) is in
      ap Some (made ∙ ap (λ (o : Option Scope). with_hanging (unwrap_or o no_scope) hanging 0) none ∙ scope_top hanging hangs (slice_get_within plan.elements 0 e there)) ∙ inner_is 0 e there inner
  inner_kept packages hanging (suc n) e p is hangs there inner made =
      let before = parent_before plan is_plan (suc n) e there (omega arith) in
      let some : package_at packages e.parent ≡ Some (scope_of plan.elements e.parent) =
      ap (λ (xs : List (Option Scope)). package_at xs e.parent) is ∙ get_or-map-range_with_len (kept_of plan.elements) 0 (suc n) e.parent e.parent None before (zero-add e.parent)
      ∙ parent_inner (suc n) e there (omega arith) in
      ap Some (made ∙ ap (λ (o : Option Scope). with_hanging (unwrap_or o no_scope) hanging (suc n)) some
      ∙ scope_below hanging (suc n) e.parent hangs (slice_get_within plan.elements (suc n) e there) (omega arith) (parent_read plan.elements (suc n) e there))
      ∙ inner_is (suc n) e there inner

-- ---- what is looked up

no_leaf_kept : (s p : Scope) (leaf : Bool) → cond leaf None (Some s) ≡ Some p → p ≡ s
no_leaf_kept s p true h = cc
no_leaf_kept s p false h = cc

kept_class : (s p : Scope) (o : Option Class) → option_and_then (λ (class : Class). cond (is_leaf class) None (Some s)) o ≡ Some p → p ≡ s
kept_class s p None h = cc
kept_class s p (Some class) h = no_leaf_kept s p (is_leaf class) h

none_past : (elements : List Element) (n : ℕ) → length elements ≤ n → package_at (map (kept_of elements) (range_with_len 0 (length elements))) n ≡ None
none_past elements n h =
    let past : length (map (kept_of elements) (range_with_len 0 (length elements))) ≤ n = omega (arith, length-map-range_with_len (kept_of elements) 0 (length elements)) in
    get_or_past (map (kept_of elements) (range_with_len 0 (length elements))) n None past

pub is_kept : (elements : List Element) (packages : List (Option Scope)) (n : ℕ) (p : Scope) → packages ≡ packages_of elements → package_at packages n ≡ Some p → p ≡ scope_of elements n
is_kept elements packages n p is kept = by_test (nat_lt n (length elements)) refl where
  found : package_at (packages_of elements) n ≡ Some p
  found = ap (λ (xs : List (Option Scope)). package_at xs n) (sym is) ∙ kept

  by_test : (b : Bool) → nat_lt n (length elements) ≡ b → p ≡ scope_of elements n
  by_test true h = kept_class (scope_of elements n) p (class_at elements n) (sym (get_or-map-range_with_len (kept_of elements) 0 (length elements) n n None (ltb-true n (length elements) h) (zero-add n)) ∙ found)
  by_test false h =
      let past : length elements ≤ n = grind (arith, nat_tests) in
      let none : ◌≡◌ {A = Option Scope} None (Some p) = sym (none_past elements n past) ∙ found in
      cc

-- ---- a package is kept for each sampler

is_sampler : (class : Class) → same_class classes.Sampler class ≡ true → class ≡ classes.Sampler
is_sampler classes.Sampler h = refl
is_sampler class h = cc

sampler_class : (o : Option Class) → unwrap_or (option_map (same_class classes.Sampler) o) false ≡ true → o ≡ Some classes.Sampler
sampler_class None h = cc
sampler_class (Some class) h = ap Some (is_sampler class h)

class_within : (elements : List Element) (n : ℕ) (class : Class) → class_at elements n ≡ Some class → n < length elements
class_within elements n class is = by_option (slice_get elements n) refl is where
  by_option : (o : Option Element) → slice_get elements n ≡ o → option_map (λ (e : Element). class_of e.kind) o ≡ Some class → n < length elements
  by_option None there h = absurd cc
  by_option (Some e) there h = slice_get_within elements n e there

pub sampler_kept : (elements : List Element) (packages : List (Option Scope)) (n : ℕ) → packages ≡ packages_of elements → is_of_class elements classes.Sampler n ≡ true
    → package_at packages n ≡ Some (scope_of elements n)
sampler_kept elements packages n is sampler =
    let class = sampler_class (class_at elements n) sampler in
    ap (λ (xs : List (Option Scope)). package_at xs n) is ∙ get_or-map-range_with_len (kept_of elements) 0 (length elements) n n None (class_within elements n classes.Sampler class) (zero-add n)
    ∙ ap (option_and_then (λ (class : Class). cond (is_leaf class) None (Some (scope_of elements n)))) class
