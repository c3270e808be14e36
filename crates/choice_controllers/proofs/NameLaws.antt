-- The first child of a name, child by child.
use Rattle.std.proofs.Common.{◌≡◌, ℕ, suc, ◌+◌, ◌-◌, ◌<◌, Bool, true, false, List, [], ◌∷◌, length, drop, take, get_or, Option, Some, None, refl, cond, arith}
use Rattle.std.specs.Prelude.{map}
use Rattle.std.specs.List.{filter, position_from}
use Rattle.std.proofs.lemmas.List.{drop_more}

module _ {A : Type 0} (test : A → Bool) (is : ℕ → Bool) (name : ℕ → A) where
  -- the place of the first one that passes, after this many of those that count
  abbrev pub found : ℕ → List ℕ → Option ℕ
  found place numbers = position_from test place (take (65535 - place) (map name (filter is numbers)))

  -- where all places are taken, none
  pub found-full : (place : ℕ) (numbers : List ℕ) → place ≡ 65535 → found place numbers ≡ None
  found-full place numbers full = let none : 65535 - place ≡ 0 = omega arith in rw none refl

  -- a number that doesn't count
  pub found-skip : (place i : ℕ) (numbers : List ℕ) → i < length numbers → is (get_or numbers i 0) ≡ false
      → found place (drop (i + 1) numbers) ≡ found place (drop i numbers)
  found-skip place i numbers within skipped = rw (drop_more numbers i 0 within, skipped) refl

  -- one that passes
  pub found-here : (place i : ℕ) (numbers : List ℕ) → i < length numbers → is (get_or numbers i 0) ≡ true → place < 65535 → test (name (get_or numbers i 0)) ≡ true
      → found place (drop i numbers) ≡ Some place
  found-here place i numbers within counts room passes =
      let more : 65535 - place ≡ suc (65535 - (place + 1)) = omega arith in rw (drop_more numbers i 0 within, counts, more, passes) refl

  -- one that doesn't
  pub found-more : (place i : ℕ) (numbers : List ℕ) → i < length numbers → is (get_or numbers i 0) ≡ true → place < 65535 → test (name (get_or numbers i 0)) ≡ false
      → found (place + 1) (drop (i + 1) numbers) ≡ found place (drop i numbers)
  found-more place i numbers within counts room fails =
      let more : 65535 - place ≡ suc (65535 - (place + 1)) = omega arith in rw (drop_more numbers i 0 within, counts, more, fails) refl

-- a place that was found is one of the list
pub position_from-within : {A : Type 0} (test : A → Bool) (i k : ℕ) (xs : List A) → position_from test i xs ≡ Some k → k < i + length xs
position_from-within test i k [] h = let none : None ≡ Some k = h in cc
position_from-within test i k (x ∷ xs) h = go (test x) h (position_from-within test (i + 1) k xs) where
  go : (b : Bool) → cond b (Some i) (position_from test (i + 1) xs) ≡ Some k → (position_from test (i + 1) xs ≡ Some k → k < i + 1 + length xs) → k < i + length (x ∷ xs)
  go true here more = let same : i ≡ k = cc in omega (arith, same)
  go false there more = omega (arith, more there)
