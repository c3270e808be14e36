-- Numbers from 0 on.
use Rattle.std.proofs.Common.{◌≡◌, ◌∙◌, ℕ, zero, suc, ◌+◌, List, [], ◌∷◌, ◌++◌, length, map, ap, arith, length-append}
use Rattle.std.specs.List.{range_with_len}
use Rattle.std.proofs.lemmas.List.{map-append}

range_snoc : (a n : ℕ) → range_with_len a n ++ (a + n) ∷ [] ≡ range_with_len a (suc n)
range_snoc a zero = ap (λ k. k ∷ []) (let e : a + 0 ≡ a = omega arith in e)
range_snoc a (suc n) = ap (λ l. a ∷ l) (ap (λ k. range_with_len (a + 1) n ++ k ∷ []) (let e : a + suc n ≡ a + 1 + n = omega arith in e) ∙ range_snoc (a + 1) n)

pub range_more : (n : ℕ) → range_with_len 0 n ++ n ∷ [] ≡ range_with_len 0 (n + 1)
range_more n = ap (λ k. range_with_len 0 n ++ k ∷ []) (let e : n ≡ 0 + n = omega arith in e) ∙ range_snoc 0 n ∙ ap (range_with_len 0) (let e : suc n ≡ n + 1 = omega arith in e)

-- one more with the next number
pub numbers_more : {A : Type 0} (f : A → ℕ) (xs : List A) (x : A) → map f xs ≡ range_with_len 0 (length xs) → f x ≡ length xs → map f (xs ++ x ∷ []) ≡ range_with_len 0 (length (xs ++ x ∷ []))
numbers_more f xs x are is =
    map-append f xs (x ∷ []) ∙ ap (λ l. l ++ f x ∷ []) are ∙ ap (λ k. range_with_len 0 (length xs) ++ k ∷ []) is ∙ range_more (length xs)
    ∙ ap (range_with_len 0) (let e : length xs + 1 ≡ length (xs ++ x ∷ []) = (let l : length (xs ++ x ∷ []) ≡ length xs + 1 = length-append xs (x ∷ []) in omega arith) in e)
