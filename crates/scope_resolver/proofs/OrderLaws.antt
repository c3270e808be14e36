-- Lists in which each element comes before all later ones, and what they contain.
use Rattle.std.proofs.Common.{◌≡◌, ℕ, zero, suc, ◌<◌, Bool, true, false, cond, List, [], ◌∷◌, ◌++◌, ◌⊎◌, inl, inr, get_or, refl, sym, ap, subst, ◌∙◌, zero-add, arith}
use Rattle.std.specs.List.{AllPairs, Contains, filter, flat_map, range_with_len}
use Rattle.std.proofs.lemmas.List.Elements.{Contains-get_or, Contains-append_left, Contains-append_right, Contains-append_cases, Contains-push_cases, All-contains, filter_passes}
use Rattle.std.proofs.lemmas.List.FromFn.{length-range_with_len, get_or-range_with_len}

-- ---- what a list contains

none_in : {X : Type 0} → (x : X) → Contains [] x → ⊥
none_in x h = omega (arith, h.1)

Contains-head : {X : Type 0} → (x : X) (xs : List X) → Contains (x ∷ xs) x
Contains-head x xs = (0, omega arith, refl)

Contains-cons : {X : Type 0} → (x y : X) (xs : List X) → Contains xs y → Contains (x ∷ xs) y
Contains-cons x y xs h = Contains-append_right (x ∷ []) xs y h

Contains-cons_cases : {X : Type 0} → (x y : X) (xs : List X) → Contains (x ∷ xs) y → (x ≡ y) ⊎ Contains xs y
Contains-cons_cases {X} x y xs h = at_front (Contains-append_cases (x ∷ []) xs y h) where
  at_end : Contains [] y ⊎ (x ≡ y) → (x ≡ y) ⊎ Contains xs y
  at_end (inl none) = absurd (none_in y none)
  at_end (inr is) = inl is

  at_front : Contains (x ∷ []) y ⊎ Contains xs y → (x ≡ y) ⊎ Contains xs y
  at_front (inl c) = at_end (Contains-push_cases [] x y c)
  at_front (inr c) = inr c

-- a filter keeps what passes
kept_if : {X : Type 0} → (b : Bool) (x y : X) (xs : List X) → (Contains xs y → Contains (cond b (x ∷ xs) xs) y) × (b ≡ true → x ≡ y → Contains (cond b (x ∷ xs) xs) y)
kept_if {X} true x y xs = ((λ c. Contains-cons x y xs c), (λ t is. subst (λ (z : X). Contains (x ∷ xs) z) is (Contains-head x xs)))
kept_if false x y xs = ((λ c. c), (λ t is. absurd cc))

pub Contains-kept : {X : Type 0} → (p : X → Bool) (y : X) → p y ≡ true → (xs : List X) → Contains xs y → Contains (filter p xs) y
Contains-kept p y passes [] c = absurd (none_in y c)
Contains-kept {X} p y passes (x ∷ xs) c = kept_step (Contains-cons_cases x y xs c) (Contains-kept p y passes xs) where
  kept_step : (x ≡ y) ⊎ Contains xs y → (Contains xs y → Contains (filter p xs) y) → Contains (cond (p x) (x ∷ filter p xs) (filter p xs)) y
  kept_step (inl is) later = (kept_if (p x) x y (filter p xs)).1 (ap p is ∙ passes) is
  kept_step (inr further) later = (kept_if (p x) x y (filter p xs)).0 (later further)

was_there : {X : Type 0} → (b : Bool) (x y : X) (xs : List X) → Contains (cond b (x ∷ xs) xs) y → (x ≡ y) ⊎ Contains xs y
was_there true x y xs c = Contains-cons_cases x y xs c
was_there false x y xs c = inr c

pub Contains-before : {X : Type 0} → (p : X → Bool) (y : X) (xs : List X) → Contains (filter p xs) y → Contains xs y
Contains-before p y [] c = c
Contains-before {X} p y (x ∷ xs) c = step (was_there (p x) x y (filter p xs) c) (Contains-before p y xs) where
  step : (x ≡ y) ⊎ Contains (filter p xs) y → (Contains (filter p xs) y → Contains xs y) → Contains (x ∷ xs) y
  step (inl is) later = subst (λ (z : X). Contains (x ∷ xs) z) is (Contains-head x xs)
  step (inr further) later = Contains-cons x y xs (later further)

pub passes_in : {X : Type 0} → (p : X → Bool) (y : X) (xs : List X) → Contains (filter p xs) y → p y ≡ true
passes_in {X} p y xs c = All-contains (λ (x : X). p x ≡ true) (filter p xs) y (filter_passes p xs) c

-- lists joined end to end contain what one of them does
pub Contains-joined : {X A : Type 0} → (f : X → List A) (x : X) (y : A) → Contains (f x) y → (xs : List X) → Contains xs x → Contains (flat_map f xs) y
Contains-joined f x y here [] c = absurd (none_in x c)
Contains-joined {X} {A} f x y here (z ∷ zs) c = step (Contains-cons_cases z x zs c) (Contains-joined f x y here zs) where
  step : (z ≡ x) ⊎ Contains zs x → (Contains zs x → Contains (flat_map f zs) y) → Contains (f z ++ flat_map f zs) y
  step (inl is) later = Contains-append_left (f z) (flat_map f zs) y (subst (λ (w : X). Contains (f w) y) (sym is) here)
  step (inr further) later = Contains-append_right (f z) (flat_map f zs) y (later further)

pub joined_from : {X A : Type 0} → (f : X → List A) (y : A) (xs : List X) → Contains (flat_map f xs) y → (x : X) × Contains xs x × Contains (f x) y
joined_from f y [] c = absurd (none_in y c)
joined_from {X} {A} f y (z ∷ zs) c = step (Contains-append_cases (f z) (flat_map f zs) y c) (joined_from f y zs) where
  step : Contains (f z) y ⊎ Contains (flat_map f zs) y → (Contains (flat_map f zs) y → (x : X) × Contains zs x × Contains (f x) y)
      → (x : X) × Contains (z ∷ zs) x × Contains (f x) y
  step (inl here) later = (z, Contains-head z zs, here)
  step (inr further) later = let r = later further in (r.0, Contains-cons z r.0 zs r.1, r.2)

-- the numbers below a number
pub Contains-range : (count n : ℕ) → n < count → Contains (range_with_len 0 count) n
Contains-range count n h = (n, rw (length-range_with_len 0 count) h, get_or-range_with_len 0 count n n h ∙ zero-add n)

pub range_below : (count n : ℕ) → Contains (range_with_len 0 count) n → n < count
range_below count n (k, h, is) =
    let l : k < count = rw (length-range_with_len 0 count) at h in
    let e = get_or-range_with_len 0 count k n l in
    omega arith

-- ---- each element before all later ones

pub pairs_none : {X : Type 0} → (R : X → X → Type 0) → AllPairs R []
pairs_none R = λ i j d before h. absurd (omega arith)

pub pairs_cons : {X : Type 0} → (R : X → X → Type 0) (x : X) (xs : List X) → ((y : X) → Contains xs y → R x y) → AllPairs R xs → AllPairs R (x ∷ xs)
pairs_cons R x xs first rest i zero d before h = absurd (omega arith)
pairs_cons R x xs first rest zero (suc j) d before h = first (get_or xs j d) (Contains-get_or xs j d (omega arith))
pairs_cons R x xs first rest (suc i) (suc j) d before h = rest i j d (omega arith) (omega arith)

pub pairs_one : {X : Type 0} → (R : X → X → Type 0) (x : X) → AllPairs R (x ∷ [])
pairs_one R x = pairs_cons R x [] (λ y c. absurd (none_in y c)) (pairs_none R)

pairs_first : {X : Type 0} → (R : X → X → Type 0) (x : X) (xs : List X) → AllPairs R (x ∷ xs) → (y : X) → Contains xs y → R x y
pairs_first R x xs h y (k, in_range, is) = subst (λ z. R x z) is (h 0 (suc k) y (omega arith) (omega arith))

pairs_rest : {X : Type 0} → (R : X → X → Type 0) (x : X) (xs : List X) → AllPairs R (x ∷ xs) → AllPairs R xs
pairs_rest R x xs h = λ i j d before in_range. h (suc i) (suc j) d (omega arith) (omega arith)

pub pairs_append : {X : Type 0} → (R : X → X → Type 0) (xs ys : List X) → AllPairs R xs → AllPairs R ys
    → ((x y : X) → Contains xs x → Contains ys y → R x y) → AllPairs R (xs ++ ys)
pairs_append R [] ys before after between = after
pairs_append {X} R (x ∷ xs) ys before after between =
    pairs_cons R x (xs ++ ys) (λ y c. by_case y (Contains-append_cases xs ys y c))
    (pairs_append R xs ys (pairs_rest R x xs before) after (λ z y c k. between z y (Contains-cons x z xs c) k)) where
      by_case : (y : X) → Contains xs y ⊎ Contains ys y → R x y
      by_case y (inl c) = pairs_first R x xs before y c
      by_case y (inr c) = between x y (Contains-head x xs) c

pub pairs_weaker : {X : Type 0} → (R S : X → X → Type 0) (xs : List X) → ((x y : X) → Contains xs x → Contains xs y → R x y → S x y) → AllPairs R xs → AllPairs S xs
pairs_weaker R S xs weaker h = λ i j d before in_range.
    weaker (get_or xs i d) (get_or xs j d) (Contains-get_or xs i d (omega arith)) (Contains-get_or xs j d in_range) (h i j d before in_range)

-- joined end to end: each list in itself, and the elements of an earlier one before those of a later one
pub pairs_joined : {X A : Type 0} → (Q : X → X → Type 0) (R : A → A → Type 0) (f : X → List A) → ((x : X) → AllPairs R (f x))
    → ((x z : X) → Q x z → (a b : A) → Contains (f x) a → Contains (f z) b → R a b)
    → (xs : List X) → AllPairs Q xs → AllPairs R (flat_map f xs)
pairs_joined Q R f each between [] h = pairs_none R
pairs_joined {X} {A} Q R f each between (x ∷ xs) h =
    pairs_append R (f x) (flat_map f xs) (each x) (pairs_joined Q R f each between xs (pairs_rest Q x xs h)) later where
      later : (a b : A) → Contains (f x) a → Contains (flat_map f xs) b → R a b
      later a b here further = let r = joined_from f b xs further in between x r.0 (pairs_first Q x xs h r.0 r.1) a b here r.2

pub pairs_range : (count : ℕ) → AllPairs (λ m n. m < n) (range_with_len 0 count)
pairs_range count = λ i j d before in_range.
    let l : j < count = rw (length-range_with_len 0 count) at in_range in
    let e = get_or-range_with_len 0 count i d (omega arith) in
    let f = get_or-range_with_len 0 count j d l in
    omega arith
