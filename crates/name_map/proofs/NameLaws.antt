-- Names with their values, in order.
use Rattle.std.proofs.Common.{◌≡◌, ℕ, List, [], ◌∷◌, Bool, true, false, cond, Some, None, refl, sym, ap, ◌∙◌, subst}
use Rattle.std.specs.Prelude.{if◌then◌else◌, ◌≢◌, unwrap_or}
use Rattle.std.specs.declared.cmp.Ordering.{Ordering}
use Rattle.std.specs.declared.cmp.Ordering.TheVariants.{Less, Equal, Greater}
use Rattle.std.specs.Ordering.{is_eq, match_ordering, ordering_reverse}
use Rattle.std.specs.Cmp.Lexicographic.{nat_list_cmp_total}
use Rattle.std.specs.FinMap.{slice_cmp-IsAntisymmetric, nat_cmp-IsAntisymmetric}
use Rattle.std.specs.List.{AllByRecursion}
use Rattle.std.specs.List.Sorted.{IsStrictlySortedBy}
use Rattle.std.specs.Map.{keys_of}
use Rattle.std.specs.BTreeMap.{is_at}
use Rattle.std.specs.Cmp.{eq_by_cmp_equiv}
use Rattle.std.proofs.lemmas.Cmp.{tied_itself}
use Rattle.std.proofs.lemmas.Map.{lookup-remove_entry}
use Rattle.std.proofs.lemmas.Map.Keys.{IsDistinct-from_sorted}
use Rattle.name_map.specs.Names.{Variables, by_bytes, is_same, value_of, with_var, without_var, IsInOrder}

-- ---- names

same_from_equal : (a b : List ℕ) → by_bytes a b ≡ Equal → a ≡ b
same_from_equal = slice_cmp-IsAntisymmetric nat_cmp-IsAntisymmetric

equal_from_is : (o : Ordering) → is_eq o ≡ true → o ≡ Equal
equal_from_is Less h = cc
equal_from_is Equal h = refl
equal_from_is Greater h = cc

pub same_from_is : (a b : List ℕ) → is_same a b ≡ true → a ≡ b
same_from_is a b h = same_from_equal a b (equal_from_is (by_bytes a b) h)

pub is_same-refl : (a : List ℕ) → is_same a a ≡ true
is_same-refl a = ap is_eq (tied_itself nat_list_cmp_total a)

-- ---- values

value_step : (q name value : List ℕ) (e : List ℕ × List ℕ) (es : Variables) → value_of q (with_var name value es) ≡ (if is_same q name then Some value else value_of q es)
    → (o : Ordering) → by_bytes name e.0 ≡ o → value_of q (match_ordering o ((name, value) ∷ e ∷ es) ((e.0, value) ∷ es) (e ∷ with_var name value es)) ≡ (if is_same q name then Some value else value_of q (e ∷ es))
value_step q name value e es more Less is = refl
value_step q name value e es more Equal is =
    subst (λ n. cond (is_same q n) (Some value) (value_of q es) ≡ cond (is_same q name) (Some value) (cond (is_same q n) (Some e.1) (value_of q es)))
    (same_from_equal name e.0 is) (twice (is_same q name))
  where
    twice : (b : Bool) → cond b (Some value) (value_of q es) ≡ cond b (Some value) (cond b (Some e.1) (value_of q es))
    twice true = refl
    twice false = refl
value_step q name value e es more Greater is = ap (cond (is_same q e.0) (Some e.1)) more ∙ swap (is_same q e.0) (is_same q name) refl refl
  where
    swap : (b c : Bool) → is_same q e.0 ≡ b → is_same q name ≡ c → cond b (Some e.1) (cond c (Some value) (value_of q es)) ≡ cond c (Some value) (cond b (Some e.1) (value_of q es))
    swap true true h k =
        let same : name ≡ e.0 = sym (same_from_is q name k) ∙ same_from_is q e.0 h in
        let tied : by_bytes name e.0 ≡ Equal = subst (λ n. by_bytes name n ≡ Equal) same (tied_itself nat_list_cmp_total name) in
        cc
    swap true false h k = refl
    swap false true h k = refl
    swap false false h k = refl

-- the value of a name after another was set
pub value_of-with_var : (q name value : List ℕ) (vars : Variables) → value_of q (with_var name value vars) ≡ (if is_same q name then Some value else value_of q vars)
value_of-with_var q name value [] = refl
value_of-with_var q name value (e ∷ es) = value_step q name value e es (value_of-with_var q name value es) (by_bytes name e.0) refl

-- the value of a name after one was taken out
pub value_of-without_var : (q name : List ℕ) (vars : Variables) → IsInOrder vars → value_of q (without_var name vars) ≡ (if is_same q name then None else value_of q vars)
value_of-without_var q name vars sorted =
    lookup-remove_entry (eq_by_cmp_equiv nat_list_cmp_total) (is_at (by_bytes name)) (λ x y h. ap (λ n. is_eq (by_bytes n y)) (same_from_is name x h)) q vars (IsDistinct-from_sorted by_bytes (keys_of vars) sorted)
    ∙ ap (λ b. if b then None else value_of q vars) ((eq_by_cmp_equiv nat_list_cmp_total).symm name q)

-- ---- order

above : (a b : List ℕ) → by_bytes a b ≡ Less → (ns : List (List ℕ)) → AllByRecursion (λ n. by_bytes b n ≡ Less) ns → AllByRecursion (λ n. by_bytes a n ≡ Less) ns
above a b less [] all = tt
above a b less (n ∷ ns) all = (nat_list_cmp_total.trans a b n less all.0, above a b less ns all.1)

all-with : (P : List ℕ → Type 0) (name value : List ℕ) (vars : Variables) → P name → AllByRecursion P (keys_of vars) → AllByRecursion P (keys_of (with_var name value vars))
all-with P name value [] p all = (p, tt)
all-with P name value (e ∷ es) p all = step (by_bytes name e.0) (all-with P name value es p all.1)
  where
    step : (o : Ordering) → AllByRecursion P (keys_of (with_var name value es)) → AllByRecursion P (keys_of (match_ordering o ((name, value) ∷ e ∷ es) ((e.0, value) ∷ es) (e ∷ with_var name value es)))
    step Less more = (p, all)
    step Equal more = all
    step Greater more = (all.0, more)

with_step : (name value : List ℕ) (e : List ℕ × List ℕ) (es : Variables) → IsInOrder (e ∷ es) → IsInOrder (with_var name value es)
    → (o : Ordering) → by_bytes name e.0 ≡ o → IsInOrder (match_ordering o ((name, value) ∷ e ∷ es) ((e.0, value) ∷ es) (e ∷ with_var name value es))
unfolding IsStrictlySortedBy
with_step name value e es sorted more Less is = ((is, above name e.0 is (keys_of es) sorted.0), sorted)
with_step name value e es sorted more Equal is = sorted
with_step name value e es sorted more Greater is =
    (all-with (λ n. by_bytes e.0 n ≡ Less) name value es (nat_list_cmp_total.antisymm e.0 name ∙ ap ordering_reverse is) sorted.0, more)

-- names stay in order when one is set
pub with_var-ordered : (name value : List ℕ) (vars : Variables) → IsInOrder vars → IsInOrder (with_var name value vars)
unfolding IsStrictlySortedBy
with_var-ordered name value [] sorted = (tt, tt)
with_var-ordered name value (e ∷ es) sorted = with_step name value e es sorted (with_var-ordered name value es sorted.1) (by_bytes name e.0) refl

all-without : (P : List ℕ → Type 0) (name : List ℕ) (vars : Variables) → AllByRecursion P (keys_of vars) → AllByRecursion P (keys_of (without_var name vars))
all-without P name [] all = all
all-without P name (e ∷ es) all =
    elim (is_same name e.0) as (λ b. AllByRecursion P (keys_of (cond b es (e ∷ without_var name es)))) [ true ↦ all.1 | false ↦ (all.0, all-without P name es all.1) ]

-- and when one is taken out
pub without_var-ordered : (name : List ℕ) (vars : Variables) → IsInOrder vars → IsInOrder (without_var name vars)
unfolding IsStrictlySortedBy
without_var-ordered name [] sorted = sorted
without_var-ordered name (e ∷ es) sorted =
    elim (is_same name e.0) as (λ b. IsInOrder (cond b es (e ∷ without_var name es))) [
      | true ↦ sorted.1
      | false ↦ (all-without (λ n. by_bytes e.0 n ≡ Less) name es sorted.0, without_var-ordered name es sorted.1)
    ]

-- ---- names in order with the same values are the same

below : (name : List ℕ) (es : Variables) → AllByRecursion (λ n. by_bytes name n ≡ Less) (keys_of es) → value_of name es ≡ None
below name [] all = refl
below name (e ∷ es) all = ap (λ o. cond (is_eq o) (Some e.1) (value_of name es)) all.0 ∙ below name es all.1

at_head : (e : List ℕ × List ℕ) (es : Variables) → value_of e.0 (e ∷ es) ≡ Some e.1
at_head e es = ap (λ b. cond b (Some e.1) (value_of e.0 es)) (is_same-refl e.0)

-- no name is less than all of a list and has a value in it
too_low : (name value : List ℕ) (e : List ℕ × List ℕ) (es : Variables) → IsInOrder (e ∷ es) → by_bytes name e.0 ≡ Less → value_of name (e ∷ es) ≢ Some value
unfolding IsStrictlySortedBy
too_low name value e es sorted is found =
    let none : value_of name (e ∷ es) ≡ None = below name (e ∷ es) (is, above name e.0 is (keys_of es) sorted.0) in
    let some : Some value ≡ None = sym found ∙ none in
    cc

module _ (x y : List ℕ × List ℕ) (xs ys : Variables) (s : IsInOrder (x ∷ xs)) (t : IsInOrder (y ∷ ys)) (h : (name : List ℕ) → value_of name (x ∷ xs) ≡ value_of name (y ∷ ys)) where
  heads : (o : Ordering) → by_bytes x.0 y.0 ≡ o → x.0 ≡ y.0
  heads Less is = absurd (too_low x.0 x.1 y ys t is (sym (h x.0) ∙ at_head x xs))
  heads Equal is = same_from_equal x.0 y.0 is
  heads Greater is = absurd (too_low y.0 y.1 x xs s (nat_list_cmp_total.antisymm y.0 x.0 ∙ ap ordering_reverse is) (h y.0 ∙ at_head y ys))

  same_head : x ≡ y
  same_head =
      let name : x.0 ≡ y.0 = heads (by_bytes x.0 y.0) refl in
      let found : Some x.1 ≡ Some y.1 = sym (at_head x xs) ∙ h x.0 ∙ ap (λ n. value_of n (y ∷ ys)) name ∙ at_head y ys in
      let value : x.1 ≡ y.1 = ap (λ o. unwrap_or o x.1) found in
      λ i. (name i, value i)

  tails : (q : List ℕ) → value_of q xs ≡ value_of q ys
  unfolding IsStrictlySortedBy
  tails q = by (is_same q x.0) refl
    where
      by : (b : Bool) → is_same q x.0 ≡ b → value_of q xs ≡ value_of q ys
      by true is =
          let name : q ≡ x.0 = same_from_is q x.0 is in
          ap (λ n. value_of n xs) name ∙ below x.0 xs s.0 ∙ sym (ap (λ n. value_of n ys) (name ∙ ap (λ e. e.0) same_head) ∙ below y.0 ys t.0)
      by false is =
          let other : is_same q y.0 ≡ false = ap (λ e. is_same q e.0) (sym same_head) ∙ is in
          sym (ap (λ b. cond b (Some x.1) (value_of q xs)) is) ∙ h q ∙ ap (λ b. cond b (Some y.1) (value_of q ys)) other

pub same_values : (a b : Variables) → IsInOrder a → IsInOrder b → ((name : List ℕ) → value_of name a ≡ value_of name b) → a ≡ b
unfolding IsStrictlySortedBy
same_values [] [] s t h = refl
same_values [] (y ∷ ys) s t h = let none : None ≡ Some y.1 = h y.0 ∙ at_head y ys in cc
same_values (x ∷ xs) [] s t h = let none : Some x.1 ≡ None = sym (at_head x xs) ∙ h x.0 in cc
same_values (x ∷ xs) (y ∷ ys) s t h =
    let rest = same_values xs ys s.1 t.1 (tails x y xs ys s t h) in
    λ i. same_head x y xs ys s t h i ∷ rest i

-- setting a variable to its value changes nothing
pub with_var-same : (name value : List ℕ) (vars : Variables) → IsInOrder vars → value_of name vars ≡ Some value → with_var name value vars ≡ vars
with_var-same name value vars sorted found =
    same_values (with_var name value vars) vars (with_var-ordered name value vars sorted) sorted (λ q. value_of-with_var q name value vars ∙ by q (is_same q name) refl)
  where
    by : (q : List ℕ) (b : Bool) → is_same q name ≡ b → (if b then Some value else value_of q vars) ≡ value_of q vars
    by q true is = sym found ∙ ap (λ n. value_of n vars) (sym (same_from_is q name is))
    by q false is = refl
