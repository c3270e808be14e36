-- Sums over a list that is cut, or of which one element changes.
use Rattle.std.proofs.Common.{◌≡◌, ℕ, zero, suc, ◌+◌, ◌<◌, ◌≤◌, List, [], ◌∷◌, length, get_or, set, take, refl, arith, add-one, ap, ◌∙◌}
use Rattle.jm_base.specs.SumTotals.{total}

module _ {A : Type 0} where
  pub total_written : (f : A → ℕ) (l : List A) (i : ℕ) (w : A) → i < length l → f w ≤ total f (set l i w)
  total_written f [] i w h = absurd (omega arith)
  total_written f (x ∷ xs) zero w h = omega arith
  total_written f (x ∷ xs) (suc i) w h = let r = total_written f xs i w (omega arith) in omega arith

  take_suc : (f : A → ℕ) (l : List A) (i : ℕ) (d : A) → i < length l → total f (take (suc i) l) ≡ total f (take i l) + f (get_or l i d)
  take_suc f [] i d h = absurd (omega arith)
  take_suc f (x ∷ xs) zero d h = omega arith
  take_suc f (x ∷ xs) (suc i) d h = let r = take_suc f xs i d (omega arith) in omega arith

  pub total_next : (f : A → ℕ) (l : List A) (i : ℕ) (d : A) → i < length l → total f (take (i + 1) l) ≡ total f (take i l) + f (get_or l i d)
  total_next f l i d h = ap (λ (n : ℕ). total f (take n l)) (add-one i) ∙ take_suc f l i d h

  pub total_taken : (f : A → ℕ) (l : List A) (i : ℕ) → total f (take i l) ≤ total f l
  total_taken f l zero = omega arith
  total_taken f [] (suc i) = omega arith
  total_taken f (x ∷ xs) (suc i) = let r = total_taken f xs i in omega arith

  pub total_all : (f : A → ℕ) (l : List A) → total f (take (length l) l) ≡ total f l
  total_all f [] = refl
  total_all f (x ∷ xs) = let r = total_all f xs in omega arith

  -- a loop that sums f over a list that is `whole`
  pub sum_low : (f : A → ℕ) (whole items : List A) (i s : ℕ) (d : A) → items ≡ whole → s ≡ total f (take i items) → i < length items → s + f (get_or items i d) ≤ total f whole
  sum_low f whole items i s d is now h =
      let n = total_next f items i d h in let t = total_taken f items (i + 1) in let w : total f items ≡ total f whole = ap (total f) is in omega arith

  pub sum_next : (f : A → ℕ) (items : List A) (i s : ℕ) (d : A) → s ≡ total f (take i items) → i < length items → s + f (get_or items i d) ≡ total f (take (i + 1) items)
  sum_next f items i s d now h = let n = total_next f items i d h in omega arith

  pub sum_done : (f : A → ℕ) (whole items : List A) (i s : ℕ) → items ≡ whole → s ≡ total f (take i items) → i ≡ length items → s ≡ total f whole
  sum_done f whole items i s is now e = now ∙ ap (λ (n : ℕ). total f (take n items)) e ∙ total_all f items ∙ ap (total f) is
