-- How an order is made, word by word.
use Rattle.std.proofs.Common.{◌≡◌, ℕ, zero, suc, ◌+◌, ◌-◌, ◌%◌, ◌<◌, ◌≤◌, List, [], ◌∷◌, ◌++◌, length, get_or, Some, refl, sym, ap, ◌∙◌, arith}
use Rattle.std.specs.Prelude.{swap, slice_get, All, IsPermutation}
use Rattle.std.specs.List.{range_with_len}
use Rattle.std.proofs.lemmas.List.FromFn.{length-range_with_len, get_or-range_with_len}
use Rattle.std.proofs.lemmas.Option.{slice_get_within, get_or_from_slice_get}
use Rattle.std.proofs.lemmas.List.Sorted.{All-permutation, length_permutation}
use Rattle.var_functions.specs.FunctionState.{Functions, drawn, draw}
use Rattle.choice_controllers.specs.RandomOrderController.{shuffled, places}

-- the exchange at the last index that is left
shuffled-last : {A : Type 0} (i : ℕ) (xs : List A) (fns : Functions) → 1 < i
    → shuffled (i - 1 - 1) (swap xs (i - 1) (drawn fns.random % (i - 1 + 1))) (draw fns) ≡ shuffled (i - 1) xs fns
shuffled-last zero xs fns h = absurd (omega arith)
shuffled-last (suc zero) xs fns h = absurd (omega arith)
shuffled-last (suc (suc i)) xs fns h = let e : suc (suc i) - 1 ≡ suc i = omega arith in let f : suc i - 1 ≡ i = omega arith in rw (e, f) refl

pub shuffled-more : {A : Type 0} (i word : ℕ) (xs ys : List A) (old new : Functions) → 1 < i
    → word ≡ drawn old.random → new ≡ draw old → ys ≡ swap xs (i - 1) (word % (i - 1 + 1))
    → shuffled (i - 1 - 1) ys new ≡ shuffled (i - 1) xs old
shuffled-more i word xs ys old new h is after exchanged = rw (exchanged, after, is) (shuffled-last i xs old h)

-- one more place
pub range-more : (a n : ℕ) → range_with_len a n ++ (a + n) ∷ [] ≡ range_with_len a (n + 1)
range-more a zero = let same : a + zero ≡ a = omega arith in rw same refl
range-more a (suc n) =
    let same : a + suc n ≡ a + 1 + n = omega arith in
    let more : suc n + 1 ≡ suc (n + 1) = omega arith in
    rw (same, more) (ap (λ xs. a ∷ xs) (range-more (a + 1) n))

pub places-more : (n : ℕ) → places n ++ n ∷ [] ≡ places (n + 1)
places-more n = let none : 0 + n ≡ n = omega arith in ap (λ m. places n ++ m ∷ []) (sym none) ∙ range-more 0 n

-- each place of an order is below the number of children
pub order-below : (n : ℕ) (order : List ℕ) → IsPermutation (places n) order → All (λ place. place < n) order
order-below n order h = All-permutation (λ place. place < n) (places n) order h
    (λ k d within. let small : k < n = omega (arith, within, length-range_with_len 0 n) in omega (arith, get_or-range_with_len 0 n k d small))

-- what stands in a list where each is below a number
pub get-below : (n i : ℕ) (order : List ℕ) (place : ℕ) → All (λ place. place < n) order → Some place ≡ slice_get order i → place < n
get-below n i order place all is =
    let within : i < length order = slice_get_within order i place (sym is) in
    let same : get_or order i 0 ≡ place = get_or_from_slice_get order i place 0 (sym is) in
    omega (arith, all i 0 within, same)

-- an order has as many places as there are children
pub order-length : (n : ℕ) (order : List ℕ) → IsPermutation (places n) order → length order ≤ n
order-length n order h =
    let l = length_permutation (places n) order h in
    let m = length-range_with_len 0 n in omega (arith, l, m)

-- after a place that is there fewer are left
pub fewer-left : (i : ℕ) (order : List ℕ) (place : ℕ) → Some place ≡ slice_get order i → length order - (i + 1) < length order - i
fewer-left i order place is = let within : i < length order = slice_get_within order i place (sym is) in omega (arith, within)
