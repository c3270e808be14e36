-- The fields of a record of comma-separated values, one after another.
use Rattle.std.proofs.Common.{◌≡◌, ℕ, zero, suc, arith, ◌+◌, List, [], ◌∷◌, ◌++◌, append_assoc, drop, Some, None, refl, sym, ap, ◌∙◌}
use Rattle.std.proofs.lemmas.List.{append-nil}
use Rattle.csv.specs.Records.{field_at}

here : (fields : List (List ℕ)) (i : ℕ) (field : List ℕ) → Some field ≡ field_at fields i → drop i fields ≡ field ∷ drop (i + 1) fields
unfolding field_at
here [] zero field is = absurd (cc)
here [] (suc i) field is = absurd (cc)
here (y ∷ ys) zero field is = let e : field ≡ y = (cc) in rw e refl
here (y ∷ ys) (suc i) field is = let e : suc i + 1 ≡ suc (i + 1) = omega arith in rw e (here ys i field is)

past : (fields : List (List ℕ)) (i : ℕ) → None ≡ field_at fields i → drop i fields ≡ []
unfolding field_at
past [] zero is = refl
past [] (suc i) is = refl
past (y ∷ ys) zero is = absurd (cc)
past (y ∷ ys) (suc i) is = past ys i is

-- one more of them
pub one-more : (fields read : List (List ℕ)) (i : ℕ) (field : List ℕ) → Some field ≡ field_at fields i → read ++ drop i fields ≡ fields → (read ++ field ∷ []) ++ drop (i + 1) fields ≡ fields
one-more fields read i field is so_far = append_assoc read (field ∷ []) (drop (i + 1) fields) ∙ ap (λ rest. read ++ rest) (sym (here fields i field is)) ∙ so_far

-- all of them
pub no-more : (fields read : List (List ℕ)) (i : ℕ) → None ≡ field_at fields i → read ++ drop i fields ≡ fields → read ≡ fields
no-more fields read i is so_far = sym (append-nil read) ∙ ap (λ rest. read ++ rest) (sym (past fields i is)) ∙ so_far
