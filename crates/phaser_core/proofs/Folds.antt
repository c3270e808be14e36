-- Folds of a column over a list of views in which one changes, one comes, or one hands to another.
use Rattle.std.proofs.Common.{◌≡◌, ℕ, zero, suc, ◌+◌, ◌<◌, List, [], ◌∷◌, ◌++◌, set, sym, refl, ap, ◌∙◌, arith}
use mathlib.Core.Option.{some, some-injective, some-ne-none}
use lib.ListN.{get_elem?}
use Rattle.jm_base.specs.SumTotals.{total}
use Rattle.phaser_core.specs.Cells.{combine, vacant, gather, folded}
use Rattle.phaser_core.proofs.Lists.{set_else}

pub combine_comm : (c x y : ℕ) → combine c x y ≡ combine c y x
combine_comm zero x y = omega arith
combine_comm (suc zero) x y = omega arith
combine_comm (suc (suc zero)) x y = omega arith
combine_comm (suc (suc (suc zero))) x y = omega arith
combine_comm (suc (suc (suc (suc zero)))) x y = omega arith
combine_comm (suc (suc (suc (suc (suc c))))) x y = omega arith

pub combine_assoc : (c x y z : ℕ) → combine c (combine c x y) z ≡ combine c x (combine c y z)
combine_assoc zero x y z = omega arith
combine_assoc (suc zero) x y z = omega arith
combine_assoc (suc (suc zero)) x y z = omega arith
combine_assoc (suc (suc (suc zero))) x y z = omega arith
combine_assoc (suc (suc (suc (suc zero)))) x y z = omega arith
combine_assoc (suc (suc (suc (suc (suc c))))) x y z = omega arith

pub vacant_vacant : (c : ℕ) → combine c (vacant c) (vacant c) ≡ vacant c
vacant_vacant zero = refl
vacant_vacant (suc zero) = refl
vacant_vacant (suc (suc zero)) = refl
vacant_vacant (suc (suc (suc zero))) = refl
vacant_vacant (suc (suc (suc (suc zero)))) = refl
vacant_vacant (suc (suc (suc (suc (suc c))))) = refl

pub combine_sum : (c x y : ℕ) → c < 4 → combine c x y ≡ x + y
combine_sum zero x y h = refl
combine_sum (suc zero) x y h = refl
combine_sum (suc (suc zero)) x y h = refl
combine_sum (suc (suc (suc zero))) x y h = refl
combine_sum (suc (suc (suc (suc c)))) x y h = absurd (omega arith)

pub vacant_sum : (c : ℕ) → c < 4 → vacant c ≡ 0
vacant_sum zero h = refl
vacant_sum (suc zero) h = refl
vacant_sum (suc (suc zero)) h = refl
vacant_sum (suc (suc (suc zero))) h = refl
vacant_sum (suc (suc (suc (suc c)))) h = absurd (omega arith)

-- the step on the word folds, where no sum wraps
pub folded_is : (c x y : ℕ) → (c < 4 → x + y < 18446744073709551616) → folded c x y ≡ combine c x y
folded_is zero x y h = let f = h (omega arith) in omega arith
folded_is (suc zero) x y h = let f = h (omega arith) in omega arith
folded_is (suc (suc zero)) x y h = let f = h (omega arith) in omega arith
folded_is (suc (suc (suc zero))) x y h = let f = h (omega arith) in omega arith
folded_is (suc (suc (suc (suc zero)))) x y h = refl
folded_is (suc (suc (suc (suc (suc c))))) x y h = refl

-- x ∘ y ∘ z = x ∘ z ∘ y
pub combine_swap : (c x y z : ℕ) → combine c (combine c x y) z ≡ combine c (combine c x z) y
combine_swap c x y z = combine_assoc c x y z ∙ ap (λ (t : ℕ). combine c x t) (combine_comm c y z) ∙ sym (combine_assoc c x z y)

module _ {A : Type 0} where
  pub gather_more : (c : ℕ) (f : A → ℕ) (l : List A) (i : ℕ) (v w : A) (x : ℕ) → get_elem? l i ≡ some v → f w ≡ combine c (f v) x → gather c f (set l i w) ≡ combine c (gather c f l) x
  gather_more c f [] i v w x e h = absurd (some-ne-none v (sym e))
  gather_more c f (y ∷ ys) zero v w x e h =
      let is : f y ≡ f v = ap f (some-injective y v e) in
      ap (λ (z : ℕ). combine c z (gather c f ys)) (h ∙ ap (λ (z : ℕ). combine c z x) (sym is)) ∙ combine_swap c (f y) x (gather c f ys)
  gather_more c f (y ∷ ys) (suc i) v w x e h = ap (λ (z : ℕ). combine c (f y) z) (gather_more c f ys i v w x e h) ∙ sym (combine_assoc c (f y) (gather c f ys) x)

  pub gather_same : (c : ℕ) (f : A → ℕ) (l : List A) (i : ℕ) (v w : A) → get_elem? l i ≡ some v → f w ≡ f v → gather c f (set l i w) ≡ gather c f l
  gather_same c f [] i v w e h = absurd (some-ne-none v (sym e))
  gather_same c f (y ∷ ys) zero v w e h = ap (λ (z : ℕ). combine c z (gather c f ys)) (h ∙ sym (ap f (some-injective y v e)))
  gather_same c f (y ∷ ys) (suc i) v w e h = ap (λ (z : ℕ). combine c (f y) z) (gather_same c f ys i v w e h)

  pub gather_snoc : (c : ℕ) (f : A → ℕ) (l : List A) (x : A) → gather c f (l ++ x ∷ []) ≡ combine c (gather c f l) (f x)
  gather_snoc c f [] x = combine_comm c (f x) (vacant c)
  gather_snoc c f (y ∷ ys) x = ap (λ (z : ℕ). combine c (f y) z) (gather_snoc c f ys x) ∙ sym (combine_assoc c (f y) (gather c f ys) (f x))

  pub gather_unit : (c : ℕ) (f : A → ℕ) (l : List A) → ((i : ℕ) (x : A) → get_elem? l i ≡ some x → f x ≡ vacant c) → gather c f l ≡ vacant c
  gather_unit c f [] h = refl
  gather_unit c f (y ∷ ys) h = ap (λ (z : ℕ). combine c z (gather c f ys)) (h 0 y refl) ∙ ap (λ (z : ℕ). combine c (vacant c) z) (gather_unit c f ys (λ i x e. h (suc i) x e)) ∙ vacant_vacant c

  -- the vacant more changes nothing, since each fold ends in it
  pub gather_cap : (c : ℕ) (f : A → ℕ) (l : List A) → combine c (gather c f l) (vacant c) ≡ gather c f l
  gather_cap c f [] = vacant_vacant c
  gather_cap c f (y ∷ ys) = combine_assoc c (f y) (gather c f ys) (vacant c) ∙ ap (λ (z : ℕ). combine c (f y) z) (gather_cap c f ys)

  pub gather_from : (c : ℕ) (f : A → ℕ) (l : List A) → combine c (vacant c) (gather c f l) ≡ gather c f l
  gather_from c f l = combine_comm c (vacant c) (gather c f l) ∙ gather_cap c f l

  pub gather_append : (c : ℕ) (f : A → ℕ) (l m : List A) → gather c f (l ++ m) ≡ combine c (gather c f l) (gather c f m)
  gather_append c f [] m = sym (gather_from c f m)
  gather_append c f (x ∷ xs) m = ap (λ (z : ℕ). combine c (f x) z) (gather_append c f xs m) ∙ sym (combine_assoc c (f x) (gather c f xs) (gather c f m))

  pub gather_sum : (c : ℕ) (f : A → ℕ) (l : List A) → c < 4 → gather c f l ≡ total f l
  gather_sum c f [] h = vacant_sum c h
  gather_sum c f (y ∷ ys) h = combine_sum c (f y) (gather c f ys) h ∙ ap (λ (z : ℕ). f y + z) (gather_sum c f ys h)

  pub set_back : (l : List A) (i : ℕ) (a b : A) → get_elem? l i ≡ some b → set (set l i a) i b ≡ l
  set_back [] i a b e = refl
  set_back (x ∷ xs) zero a b e = ap (λ (y : A). y ∷ xs) (sym (some-injective x b e))
  set_back (x ∷ xs) (suc i) a b e = ap (λ (l : List A). x ∷ l) (set_back xs i a b e)

  set_swap : (l : List A) (i j : ℕ) (a b : A) → (j ≡ i → ⊥) → set (set l i a) j b ≡ set (set l j b) i a
  set_swap [] i j a b ne = refl
  set_swap (x ∷ xs) zero zero a b ne = absurd (ne refl)
  set_swap (x ∷ xs) zero (suc j) a b ne = refl
  set_swap (x ∷ xs) (suc i) zero a b ne = refl
  set_swap (x ∷ xs) (suc i) (suc j) a b ne = ap (λ (l : List A). x ∷ l) (set_swap xs i j a b (λ e. ne (ap suc e)))

  pub here : (l : List A) (j : ℕ) (a b : A) → get_elem? l j ≡ some b → get_elem? (set l j a) j ≡ some a
  here [] j a b e = absurd (some-ne-none b (sym e))
  here (x ∷ xs) zero a b e = refl
  here (x ∷ xs) (suc j) a b e = here xs j a b e

  -- one view hands y to another
  pub gather_moved : (c : ℕ) (f : A → ℕ) (l : List A) (i j : ℕ) (v both w gone : A) (y : ℕ) → (j ≡ i → ⊥) → get_elem? l i ≡ some v → get_elem? l j ≡ some w → f both ≡ combine c (f v) y → f w ≡ combine c y (vacant c) → f gone ≡ vacant c
      → gather c f (set (set l i both) j gone) ≡ gather c f l
  gather_moved c f l i j v both w gone y ne at at' fb fw fg =
      let l0 : List A = set l j gone in
      let there : get_elem? l0 i ≡ some v = set_else l j i gone (λ e. ne (sym e)) ∙ at in
      let gone_there : get_elem? l0 j ≡ some gone = here l j gone w at' in
      let without : gather c f (set l0 i both) ≡ combine c (gather c f l0) y = gather_more c f l0 i v both y there fb in
      let with_w : gather c f (set l0 j w) ≡ combine c (gather c f l0) y = gather_more c f l0 j gone w y gone_there (fw ∙ combine_comm c y (vacant c) ∙ ap (λ (z : ℕ). combine c z y) (sym fg)) in
      ap (gather c f) (set_swap l i j both gone ne) ∙ without ∙ sym with_w ∙ ap (gather c f) (set_back l j gone w at')
