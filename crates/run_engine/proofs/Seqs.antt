-- One element more at the end of a list, and numbers from 0 on.
use Rattle.std.proofs.Common.{◌≡◌, ◌∙◌, ℕ, zero, suc, ◌+◌, ◌<◌, List, [], ◌∷◌, ◌++◌, length, map, refl, ap, sym, subst, arith, slice_index_or}
use Rattle.std.specs.Prelude.{Contains}
use Rattle.std.specs.List.{range_with_len}

snoc_each : {A : Type 0} (P : ℕ → A → Type 0) (xs : List A) (x : A) → ((i : ℕ) (d : A) → i < length xs → P i (slice_index_or xs i d)) → P (length xs) x
    → (i : ℕ) (d : A) → i < length (xs ++ x ∷ []) → P i (slice_index_or (xs ++ x ∷ []) i d)
snoc_each P [] x each here zero d low = here
snoc_each P [] x each here (suc i) d low = absurd (omega arith)
snoc_each P (y ∷ xs) x each here zero d low = each 0 d (omega arith)
snoc_each P (y ∷ xs) x each here (suc i) d low = snoc_each (λ k. P (suc k)) xs x (λ k e l. each (suc k) e (omega arith)) here i d (omega arith)

pub more_each : {A : Type 0} (P : ℕ → A → Type 0) (xs ys : List A) (x : A) (n : ℕ) → n ≡ length xs → ys ≡ xs ++ x ∷ [] → ((i : ℕ) (d : A) → i < length xs → P i (slice_index_or xs i d)) → P n x
    → (i : ℕ) (d : A) → i < length ys → P i (slice_index_or ys i d)
more_each P xs ys x n is grown each here = subst (λ zs. (i : ℕ) (d : _) → i < length zs → P i (slice_index_or zs i d)) (sym grown) (snoc_each P xs x each (subst (λ k. P k x) is here))

range_at : (a n k d : ℕ) → k < n → slice_index_or (range_with_len a n) k d ≡ a + k
range_at a zero k d low = absurd (omega arith)
range_at a (suc n) zero d low = omega arith
range_at a (suc n) (suc k) d low = range_at (a + 1) n k d (omega arith) ∙ (let e : a + 1 + k ≡ a + suc k = omega arith in e)

pub range_length : (a n : ℕ) → length (range_with_len a n) ≡ n
range_length a zero = refl
range_length a (suc n) = let l : length (range_with_len (a + 1) n) ≡ n = range_length (a + 1) n in omega arith

-- the first numbers are low
pub low_among : (n k : ℕ) (opened : List ℕ) → opened ≡ range_with_len 0 n → Contains opened k → k < n
low_among n k opened is has =
    let h = subst (λ (xs : List ℕ). Contains xs k) is has in
    let l : length (range_with_len 0 n) ≡ n = range_length 0 n in
    let low : h.0 < length (range_with_len 0 n) = h.1 in
    let at : slice_index_or (range_with_len 0 n) h.0 k ≡ 0 + h.0 = range_at 0 n h.0 k (omega arith) in
    let there : slice_index_or (range_with_len 0 n) h.0 k ≡ k = h.2 in omega arith

-- a number that is not among the first ones
pub not_yet : (n : ℕ) (opened : List ℕ) → opened ≡ range_with_len 0 n → Contains opened n → ⊥
not_yet n opened is has = let low : n < n = low_among n n opened is has in omega arith

-- one number more
pub up_to_next : (P : ℕ → Type 0) (n : ℕ) → ((i : ℕ) → i < n → P i) → P n → (i : ℕ) → i < n + 1 → P i
up_to_next P zero below here zero low = here
up_to_next P zero below here (suc i) low = absurd (omega arith)
up_to_next P (suc n) below here zero low = below 0 (omega arith)
up_to_next P (suc n) below here (suc i) low = up_to_next (λ k. P (suc k)) n (λ k l. below (suc k) (omega arith)) here i (omega arith)

-- what holds of each element's number, whatever stands in its place beyond the end
pub each_number : {A : Type 0} (P : ℕ → Type 0) (xs : List A) → ((i : ℕ) (d : A) → i < length xs → P i) → (i : ℕ) → i < length xs → P i
each_number P [] each i low = absurd (omega arith)
each_number P (x ∷ xs) each i low = each i x low

-- the numbers of a list, one after another
pub numbers_from : {A : Type 0} (f : A → ℕ) (k : ℕ) (xs : List A) → ((i : ℕ) (d : A) → i < length xs → f (slice_index_or xs i d) ≡ k + i) → map f xs ≡ range_with_len k (length xs)
numbers_from f k [] all = refl
numbers_from f k (x ∷ xs) all =
    let here : f x ≡ k = (let e = all 0 x (omega arith) in let z : k + 0 ≡ k = omega arith in e ∙ z) in
    ap (λ m. m ∷ map f xs) here ∙ ap (λ l. k ∷ l) (numbers_from f (k + 1) xs (λ i d low. all (suc i) d (omega arith) ∙ (let e : k + suc i ≡ k + 1 + i = omega arith in e)))

pub first_each : {A : Type 0} (P : ℕ → A → Type 0) (n : ℕ) (old rest : List A) (x : A) → old ≡ x ∷ rest → ((i : ℕ) (d : A) → i < length old → P (n + i) (slice_index_or old i d)) → P n x
first_each P n old rest x step all =
    let e : n + 0 ≡ n = omega arith in
    subst (λ (k : ℕ). P k x) e (subst (λ xs. (i : ℕ) (d : _) → i < length xs → P (n + i) (slice_index_or xs i d)) step all 0 x (omega arith))

pub rest_each : {A : Type 0} (P : ℕ → A → Type 0) (n : ℕ) (old rest : List A) (x : A) → old ≡ x ∷ rest → ((i : ℕ) (d : A) → i < length old → P (n + i) (slice_index_or old i d))
    → (i : ℕ) (d : A) → i < length rest → P (n + 1 + i) (slice_index_or rest i d)
rest_each P n old rest x step all i d low =
    let e : n + suc i ≡ n + 1 + i = omega arith in
    subst (λ (k : ℕ). P k (slice_index_or rest i d)) e (subst (λ xs. (j : ℕ) (c : _) → j < length xs → P (n + j) (slice_index_or xs j c)) step all (suc i) d (omega arith))

pub none_left : {A : Type 0} (xs : List A) → length xs ≡ 0 → xs ≡ []
none_left [] none = refl
none_left (x ∷ xs) none = absurd (omega arith)
