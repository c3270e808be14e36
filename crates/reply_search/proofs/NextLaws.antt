-- One match after another.
use Rattle.std.proofs.Common.{◌≡◌, ℕ, zero, suc, ◌+◌, ◌-◌, ◌<◌, ◌≤◌, true, List, [], ◌∷◌, length, Option, Some, None, refl, sym, ap, ap₂, ◌∙◌, subst, arith}
use Rattle.std.specs.Prelude.{slice_get, IfSome}
use Rattle.std.proofs.lemmas.Option.{none-some, same_Some, slice_get_past}
use Rattle.regex.specs.Patterns.{Re, Match, find_str}
use Rattle.regex.specs.Search.{next_match, matches_after, Answers}
use Rattle.regex.proofs.SearchLemmas.{next_same, next_later, next_within, matches_after_none, matches_after_some}

later_place : {M : Type 0} (m : M) (left : List M) (n : ℕ) (o : Option M) → (n ≡ 0 → ⊥) → slice_get (m ∷ left) n ≡ o → slice_get left (n - 1) ≡ o
later_place m left zero o some so_far = absurd (some refl)
later_place m left (suc n) o some so_far = let less : suc n - 1 ≡ n = omega arith in rw less so_far

module _ (re : Re) (hay : List ℕ) (after : ℕ) where
  -- from the byte before there is none
  pub next-none : find_str re hay (after - 1) ≡ None → next_match true re hay after ≡ None
  next-none none = next_same re hay true after (λ m found. absurd (none-some m (sym none ∙ found))) ∙ none

  -- the one from there ends after it
  pub next-here : (m : Match) → find_str re hay (after - 1) ≡ Some m → after ≤ m.trace.end → next_match true re hay after ≡ Some m
  next-here m found past =
      next_same re hay true after (λ x is. subst (λ (y : Match). after ≤ y.trace.end) (same_Some _ _ (sym found ∙ is)) past) ∙ found

  -- or it is empty, where the last one ended
  pub next-there : (m : Match) → find_str re hay (after - 1) ≡ Some m → m.trace.end < after → next_match true re hay after ≡ find_str re hay after
  next-there m found before = next_later re hay true after m found before

  -- it ends within the text, and not before where the search began
  pub ends-within : {A : Type 0} (end_of : A → ℕ) (P : Match → A → Type 0) → ((m : Match) (a : A) → P m a → end_of a ≡ m.trace.end) → (r : Option A)
      → Answers r (next_match true re hay after) P → IfSome r (λ a. (after ≤ end_of a) × (end_of a ≤ length hay))
  ends-within end_of P ends None none = tt
  ends-within end_of P ends (Some a) found =
      let within = next_within re hay true after found.0 found.1 in
      let same = ends found.0 a found.2 in
      (omega (arith, within, same), omega (arith, within, same))

  -- none is left
  pub nth-none : (n : ℕ) (o : Option Match) → next_match true re hay after ≡ None → slice_get (matches_after true re hay after) n ≡ o → o ≡ None
  nth-none n o none so_far = sym so_far ∙ ap (λ ms. slice_get ms n) (matches_after_none re hay true after none) ∙ slice_get_past [] n (omega arith)

  -- the one that is looked for comes next
  pub nth-here : (m : Match) (n : ℕ) (o : Option Match) → next_match true re hay after ≡ Some m → n ≡ 0 → slice_get (matches_after true re hay after) n ≡ o → o ≡ Some m
  nth-here m n o next first so_far = sym so_far ∙ ap₂ slice_get (matches_after_some re hay true after m next) first

  -- it comes later
  pub nth-later : (m : Match) (end n : ℕ) (o : Option Match) → next_match true re hay after ≡ Some m → end ≡ m.trace.end → (n ≡ 0 → ⊥)
      → slice_get (matches_after true re hay after) n ≡ o → slice_get (matches_after true re hay (end + 1)) (n - 1) ≡ o
  nth-later m end n o next ends some so_far =
      ap (λ e. slice_get (matches_after true re hay (e + 1)) (n - 1)) ends
      ∙ later_place m (matches_after true re hay (m.trace.end + 1)) n o some (ap (λ ms. slice_get ms n) (sym (matches_after_some re hay true after m next)) ∙ so_far)

  -- all are counted
  pub counted-all : (count all : ℕ) → next_match true re hay after ≡ None → count + length (matches_after true re hay after) ≡ all → count ≡ all
  counted-all count all none so_far = let over : length (matches_after true re hay after) ≡ 0 = ap length (matches_after_none re hay true after none) in omega (arith, over)

  -- one more is counted
  pub counted-more : (m : Match) (end count all : ℕ) → next_match true re hay after ≡ Some m → end ≡ m.trace.end
      → count + length (matches_after true re hay after) ≡ all → count + 1 + length (matches_after true re hay (end + 1)) ≡ all
  counted-more m end count all next ends so_far =
      let more : length (matches_after true re hay after) ≡ length (matches_after true re hay (m.trace.end + 1)) + 1 = ap length (matches_after_some re hay true after m next) ∙ omega arith in
      let same : length (matches_after true re hay (end + 1)) ≡ length (matches_after true re hay (m.trace.end + 1)) = ap (λ e. length (matches_after true re hay (e + 1))) ends in
      omega (arith, more, same, so_far)
