-- The children of an element that are run, one after another.
use Rattle.std.proofs.Common.{◌≡◌, ℕ, ◌+◌, ◌<◌, ◌≤◌, Bool, true, false, List, [], ◌∷◌, ◌++◌, length, sym, ap, ◌∙◌, subst}
use Rattle.std.proofs.Math.Bool.{cond}
use Rattle.std.proofs.Math.ListN.{take, get_or}
use Rattle.std.specs.List.{filter}
use Rattle.std.proofs.lemmas.List.{append-nil, take_all}
use Rattle.std.proofs.lemmas.List.Elements.{filter_more}

module _ (p : ℕ → Bool) (xs ys kept : List ℕ) (i : ℕ) (same : ys ≡ xs) (are : kept ≡ filter p (take i xs)) where
  one_more : (test : Bool) → i < length ys → p (get_or ys i 0) ≡ test → kept ++ cond test (get_or ys i 0 ∷ []) [] ≡ filter p (take (i + 1) xs)
  one_more test within is =
      ap (λ l. l ++ cond test (get_or ys i 0 ∷ []) []) are ∙ ap (λ b. filter p (take i xs) ++ cond b (get_or ys i 0 ∷ []) []) (sym is)
      ∙ subst (λ l. filter p (take i xs) ++ cond (p (get_or l i 0)) (get_or l i 0 ∷ []) [] ≡ filter p (take (i + 1) xs)) (sym same) (sym (filter_more p xs i 0 (subst (λ l. i < length l) same within)))

  -- one that is run
  pub child-kept : (new : List ℕ) → i < length ys → p (get_or ys i 0) ≡ true → new ≡ kept ++ get_or ys i 0 ∷ [] → new ≡ filter p (take (i + 1) xs)
  child-kept new within is so = so ∙ one_more true within is

  -- one that isn't
  pub child-passed : (new : List ℕ) → i < length ys → p (get_or ys i 0) ≡ false → new ≡ kept → new ≡ filter p (take (i + 1) xs)
  child-passed new within is so = so ∙ sym (append-nil kept) ∙ one_more false within is

  -- all of them
  pub children-kept : length ys ≤ i → kept ≡ filter p xs
  children-kept past = are ∙ ap (filter p) (take_all i xs (subst (λ l. length l ≤ i) same past))
