-- Matches between boundaries.
use Rattle.std.proofs.Common.{◌≡◌, ℕ, zero, suc, ◌-◌, ◌<◌, List, [], ◌∷◌, ◌++◌, Some, None, sym, ap, ◌∙◌, arith, append_assoc}
use Rattle.std.proofs.lemmas.List.{append-nil}
use Rattle.extractors.specs.Matches.{cut_at, up_to_right, after_left, between}

-- no left boundary
pub no_left : (n : ℕ) (left right text : List ℕ) (texts all : List (List ℕ)) → 0 < n → cut_at left text ≡ None → texts ++ between n left right text ≡ all → texts ≡ all
unfolding between
no_left zero left right text texts all some none so_far = absurd (omega (arith, some))
no_left (suc n) left right text texts all some none so_far =
    sym (append-nil texts) ∙ ap (λ o. texts ++ after_left right (between n left right) o) (sym none) ∙ so_far

-- no right one after it
pub no_right : (n : ℕ) (left right text before within : List ℕ) (texts all : List (List ℕ)) → 0 < n → cut_at left text ≡ Some (before, within) → cut_at right within ≡ None
    → texts ++ between n left right text ≡ all → texts ≡ all
unfolding between
no_right zero left right text before within texts all some found none so_far = absurd (omega (arith, some))
no_right (suc n) left right text before within texts all some found none so_far =
    sym (append-nil texts)
    ∙ ap (λ o. texts ++ up_to_right (between n left right) o) (sym none)
    ∙ ap (λ o. texts ++ after_left right (between n left right) o) (sym found) ∙ so_far

-- both
pub one_between : (n : ℕ) (left right text before within inner after : List ℕ) (texts all : List (List ℕ)) → 0 < n → cut_at left text ≡ Some (before, within) → cut_at right within ≡ Some (inner, after)
    → texts ++ between n left right text ≡ all → (texts ++ inner ∷ []) ++ between (n - 1) left right after ≡ all
unfolding between
one_between zero left right text before within inner after texts all some found closed so_far = absurd (omega (arith, some))
one_between (suc n) left right text before within inner after texts all some found closed so_far =
    let less : suc n - 1 ≡ n = omega arith in
    rw less (append_assoc texts (inner ∷ []) (between n left right after)
    ∙ ap (λ o. texts ++ up_to_right (between n left right) o) (sym closed)
    ∙ ap (λ o. texts ++ after_left right (between n left right) o) (sym found) ∙ so_far)

-- after the last turn
pub between_over : (n : ℕ) (left right text : List ℕ) (texts all : List (List ℕ)) → n ≡ 0 → texts ++ between n left right text ≡ all → texts ≡ all
unfolding between
between_over n left right text texts all none so_far = sym (append-nil texts) ∙ ap (λ k. texts ++ between k left right text) (sym none) ∙ so_far
