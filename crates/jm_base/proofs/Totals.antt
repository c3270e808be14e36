-- Sums over a list in which one element changes, or to whose end one comes.
use Rattle.std.proofs.Common.{◌≡◌, ℕ, zero, suc, ◌+◌, ◌*◌, ◌≤◌, List, [], ◌∷◌, ◌++◌, set, sym, refl, ap, arith, mul-add}
use mathlib.Core.Option.{some, some-injective, some-ne-none}
use lib.ListN.{get_elem?}
use Rattle.jm_base.specs.SumTotals.{total}

module _ {A : Type 0} where
  pub total_set : (f : A → ℕ) (l : List A) (i : ℕ) (v w : A) → get_elem? l i ≡ some v → total f (set l i w) + f v ≡ total f l + f w
  total_set f [] i v w e = absurd (some-ne-none v (sym e))
  total_set f (x ∷ xs) zero v w e = let is : f x ≡ f v = ap f (some-injective x v e) in omega arith
  total_set f (x ∷ xs) (suc i) v w e = let r = total_set f xs i v w e in omega arith

  pub total_append : (f : A → ℕ) (l m : List A) → total f (l ++ m) ≡ total f l + total f m
  total_append f [] m = omega arith
  total_append f (x ∷ xs) m = let r = total_append f xs m in omega arith

  pub total_snoc : (f : A → ℕ) (l : List A) (v : A) → total f (l ++ v ∷ []) ≡ total f l + f v
  total_snoc f l v = let r = total_append f l (v ∷ []) in omega arith

  pub total_at : (f : A → ℕ) (l : List A) (i : ℕ) (v : A) → get_elem? l i ≡ some v → f v ≤ total f l
  total_at f [] i v e = absurd (some-ne-none v (sym e))
  total_at f (x ∷ xs) zero v e = let is : f x ≡ f v = ap f (some-injective x v e) in omega arith
  total_at f (x ∷ xs) (suc i) v e = let r = total_at f xs i v e in omega arith

  pub total_le : (f g : A → ℕ) (l : List A) → ((i : ℕ) (x : A) → get_elem? l i ≡ some x → f x ≤ g x) → total f l ≤ total g l
  total_le f g [] h = omega arith
  total_le f g (x ∷ xs) h = let here = h 0 x refl in let r = total_le f g xs (λ i y e. h (suc i) y e) in omega arith

  pub total_none : (f g : A → ℕ) (l : List A) → total g l ≡ 0 → ((i : ℕ) (x : A) → get_elem? l i ≡ some x → g x ≡ 0 → f x ≡ 0) → total f l ≡ 0
  total_none f g [] z h = refl
  total_none f g (x ∷ xs) z h = let here = h 0 x refl (omega arith) in let r = total_none f g xs (omega arith) (λ i y e. h (suc i) y e) in omega arith

  -- where all of g is one element's, and f is 0 wherever g is, all of f is that element's
  pub total_only : (f g : A → ℕ) (l : List A) (i : ℕ) (v : A) → get_elem? l i ≡ some v → total g l ≡ g v → ((i : ℕ) (x : A) → get_elem? l i ≡ some x → g x ≡ 0 → f x ≡ 0) → total f l ≡ f v
  total_only f g [] i v e all h = absurd (some-ne-none v (sym e))
  total_only f g (x ∷ xs) zero v e all h =
      let is : f x ≡ f v = ap f (some-injective x v e) in let is' : g x ≡ g v = ap g (some-injective x v e) in
      let r = total_none f g xs (omega arith) (λ i y a. h (suc i) y a) in omega arith
  total_only f g (x ∷ xs) (suc i) v e all h = let more = total_at g xs i v e in let here = h 0 x refl (omega arith) in
      let r = total_only f g xs i v e (omega arith) (λ i y a. h (suc i) y a) in omega arith

  pub total_times : (n : ℕ) (f : A → ℕ) (l : List A) → total (λ x. n * f x) l ≡ n * total f l
  total_times n f [] = omega arith
  total_times n f (x ∷ xs) = let r = total_times n f xs in rw r (sym (mul-add n (f x) (total f xs)))

  -- two of them are no more than all
  pub total_two : (f : A → ℕ) (l : List A) (i j : ℕ) (v w : A) → (i ≡ j → ⊥) → get_elem? l i ≡ some v → get_elem? l j ≡ some w → f v + f w ≤ total f l
  total_two f [] i j v w ne a b = absurd (some-ne-none v (sym a))
  total_two f (x ∷ xs) zero zero v w ne a b = absurd (ne refl)
  total_two f (x ∷ xs) zero (suc j) v w ne a b = let is : f x ≡ f v = ap f (some-injective x v a) in let r = total_at f xs j w b in omega arith
  total_two f (x ∷ xs) (suc i) zero v w ne a b = let is : f x ≡ f w = ap f (some-injective x w b) in let r = total_at f xs i v a in omega arith
  total_two f (x ∷ xs) (suc i) (suc j) v w ne a b = let r = total_two f xs i j v w (λ e. ne (ap suc e)) a b in omega arith
