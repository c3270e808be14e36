-- Two trees that match alike leave the same matches after any place.
use Rattle.std.proofs.Common.{◌≡◌, ℕ, zero, suc, ◌+◌, ◌-◌, ◌<◌, Bool, true, false, cond, ◌==◌, List, [], ◌∷◌, map, length, get_or, Option, None, Some, option_map, refl, sym, ap, ap₂, ◌∙◌, true≢false}
use Rattle.std.proofs.lemmas.Option.{none-some, same_Some}
use Rattle.std.proofs.lemmas.List.{get_or_default}
use Rattle.regex_hir.specs.Find.{find_after, matches_from}
use Rattle.regex_hir.specs.Text.{is_some_and}
use Rattle.regex_syntax.proofs.CapturesLemmas.{find_str_alike}
use Rattle.regex.specs.Patterns.{Re, Match, SameCaptures, find_str}
use Rattle.regex.specs.Search.{next_match, matches_after}
use Rattle.regex.proofs.ForCallers.{spans}

abbrev Seen : Type 0
Seen = ℕ × ℕ × (ℕ → Option ℕ)

ends_at : (o : Option Match) (i : ℕ) → is_some_and o (λ m. m.trace.end == i) ≡ is_some_and (option_map spans o) (λ (s : Seen). s.1 == i)
ends_at None i = refl
ends_at (Some m) i = refl

either_alike : (x y : Bool) (o p q r : Option Match) → x ≡ y → option_map spans o ≡ option_map spans q → option_map spans p ≡ option_map spans r
    → option_map spans (cond x o p) ≡ option_map spans (cond y q r)
either_alike true true o p q r e here there = here
either_alike false false o p q r e here there = there
either_alike true false o p q r e here there = absurd (true≢false e)
either_alike false true o p q r e here there = absurd (true≢false (sym e))

module _ (f g : ℕ → Option Match) (alike : (i : ℕ) → option_map spans (f i) ≡ option_map spans (g i)) where
  after_alike : (i : ℕ) → option_map spans (find_after f i) ≡ option_map spans (find_after g i)
  after_alike i =
      either_alike _ _ _ _ _ _ (ends_at (f i) i ∙ ap (λ o. is_some_and o (λ (s : Seen). s.1 == i)) (alike i) ∙ sym (ends_at (g i) i)) (alike (i + 1)) (alike i)

  from_alike : (n : ℕ) (o p : Option Match) → option_map spans o ≡ option_map spans p → map spans (matches_from f n o) ≡ map spans (matches_from g n p)
  unfolding matches_from
  from_alike zero o p e = refl
  from_alike (suc n) None None e = refl
  from_alike (suc n) None (Some y) e = absurd (none-some _ e)
  from_alike (suc n) (Some x) None e = absurd (none-some _ (sym e))
  from_alike (suc n) (Some x) (Some y) e =
      let same : spans x ≡ spans y = same_Some _ _ e in
      let ends : y.trace.end ≡ x.trace.end = sym (ap (λ (s : Seen). s.1) same) in
      ap₂ ◌∷◌ same (from_alike n _ _ (after_alike x.trace.end ∙ ap (λ j. option_map spans (find_after g j)) (sym ends)))

module _ {a b : Re} (same : SameCaptures a b) (hay : List ℕ) (bytes : (k : ℕ) → get_or hay k 0 < 256) where
  str_alike : (i : ℕ) → option_map spans (find_str a hay i) ≡ option_map spans (find_str b hay i)
  str_alike = find_str_alike a b same hay (λ k d h. rw (get_or_default hay k d 0 h) (bytes k))

  next_alike : (after : ℕ) → option_map spans (next_match true a hay after) ≡ option_map spans (next_match true b hay after)
  unfolding next_match
  next_alike after = either_alike (after == 0) (after == 0) _ _ _ _ refl (str_alike 0) (after_alike (find_str a hay) (find_str b hay) str_alike (after - 1))

  -- the matches that are left
  pub left_alike : (after : ℕ) → map spans (matches_after true a hay after) ≡ map spans (matches_after true b hay after)
  unfolding matches_after
  left_alike after = from_alike (find_str a hay) (find_str b hay) str_alike (length hay + 1 - after) _ _ (next_alike after)
