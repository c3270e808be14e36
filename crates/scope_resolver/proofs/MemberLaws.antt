-- What applies to an element: exactly what hangs on its line, by depth and then in tree order.
use Rattle.std.proofs.Common.{◌≡◌, ℕ, zero, suc, ◌+◌, ◌<◌, ◌≤◌, Bool, true, false, eqb, ltb, cond, List, [], ◌∷◌, ◌++◌, inl, inr, refl, sym, ap, subst, ◌∙◌, append_assoc, arith, eq-eqb}
use Rattle.std.specs.List.{Contains, AllPairs, filter, range_with_len}
use Rattle.std.proofs.lemmas.Bool.{eqb-true, ltb-true, lt-ltb, and_parts, and_from}
use Rattle.std.proofs.lemmas.List.{append-nil}
use Rattle.std.proofs.lemmas.List.Kept.{AllPairs-filter}
use Rattle.std.proofs.lemmas.List.Elements.{filter-append}
use Rattle.scope_resolver.specs.Ancestry.{above, line, depth_by, hangs_by, hanging_by, applying_by, Applies, Precedes}
use Rattle.scope_resolver.proofs.LineLaws.{line_above, above_line, depth-below, line-deeper}
use Rattle.scope_resolver.proofs.OrderLaws.{Contains-kept, Contains-before, passes_in, Contains-joined, joined_from, Contains-range, range_below, pairs_weaker, pairs_joined, pairs_range}

-- ---- the numbers that pass a test, one number more

range_more : (a n : ℕ) → range_with_len a (suc n) ≡ range_with_len a n ++ (a + n) ∷ []
range_more a zero = let P : ℕ → Type 0 = λ m. a ∷ [] ≡ m ∷ [] in subst P (omega arith) refl
range_more a (suc n) =
    let e : a + 1 + n ≡ a + suc n = omega arith in
    ap (λ (xs : List ℕ). a ∷ xs) (range_more (a + 1) n ∙ ap (λ (m : ℕ). range_with_len (a + 1) n ++ m ∷ []) e)

one_more : (p : ℕ → Bool) (n : ℕ) → filter p (range_with_len 0 (n + 1)) ≡ filter p (range_with_len 0 n) ++ cond (p n) (n ∷ []) []
one_more p n =
    let e : n + 1 ≡ suc n = omega arith in
    let z : 0 + n ≡ n = omega arith in
    ap (λ (m : ℕ). filter p (range_with_len 0 m)) e ∙ ap (filter p) (range_more 0 n ∙ ap (λ (m : ℕ). range_with_len 0 n ++ m ∷ []) z)
    ∙ filter-append p (range_with_len 0 n) (n ∷ [])

pub passed_step : (p : ℕ → Bool) (n : ℕ) (old found : List ℕ) → p n ≡ true → found ≡ old ++ filter p (range_with_len 0 n)
    → found ++ n ∷ [] ≡ old ++ filter p (range_with_len 0 (n + 1))
passed_step p n old found passes is =
    ap (λ (xs : List ℕ). xs ++ n ∷ []) is ∙ append_assoc old (filter p (range_with_len 0 n)) (n ∷ [])
    ∙ ap (λ (b : Bool). old ++ (filter p (range_with_len 0 n) ++ cond b (n ∷ []) [])) (sym passes) ∙ ap (λ (xs : List ℕ). old ++ xs) (sym (one_more p n))

pub left_step : (p : ℕ → Bool) (n : ℕ) (old found : List ℕ) → p n ≡ false → found ≡ old ++ filter p (range_with_len 0 n)
    → found ≡ old ++ filter p (range_with_len 0 (n + 1))
left_step p n old found fails is =
    is ∙ ap (λ (xs : List ℕ). old ++ xs) (sym (append-nil (filter p (range_with_len 0 n))))
    ∙ ap (λ (b : Bool). old ++ (filter p (range_with_len 0 n) ++ cond b (n ∷ []) [])) (sym fails) ∙ ap (λ (xs : List ℕ). old ++ xs) (sym (one_more p n))

-- ---- what hangs on an element

module _ (parent : ℕ → ℕ) (root : parent 0 ≡ 0) (earlier : (n : ℕ) → parent (suc n) ≤ n) (count : ℕ) where
  hangs-true : (level n : ℕ) → hangs_by parent level n ≡ true → (0 < n) × (parent n ≡ level)
  hangs-true level n h =
      let r = and_parts (ltb 0 n) (eqb (parent n) level) h in
      (ltb-true 0 n r.0, eqb-true (parent n) level r.1)

  true-hangs : (level n : ℕ) → 0 < n → parent n ≡ level → hangs_by parent level n ≡ true
  true-hangs level n h is = and_from (ltb 0 n) (eqb (parent n) level) (lt-ltb 0 n h) (eq-eqb (parent n) level is)

  hanging_hangs : (level n : ℕ) → Contains (hanging_by parent count level) n → (0 < n) × (parent n ≡ level)
  unfolding hanging_by
  hanging_hangs level n c = hangs-true level n (passes_in (hangs_by parent level) n (range_with_len 0 count) c)

  hanging_there : (level n : ℕ) → Contains (hanging_by parent count level) n → n < count
  unfolding hanging_by
  hanging_there level n c = range_below count n (Contains-before (hangs_by parent level) n (range_with_len 0 count) c)

  hangs_hanging : (level n : ℕ) → n < count → 0 < n → parent n ≡ level → Contains (hanging_by parent count level) n
  unfolding hanging_by
  hangs_hanging level n there h is = Contains-kept (hangs_by parent level) n (true-hangs level n h is) (range_with_len 0 count) (Contains-range count n there)

  -- ---- what applies

  pub applying_applies : (s n : ℕ) → Contains (applying_by parent count s) n → Applies parent count n s
  unfolding applying_by
  applying_applies s n c =
      let r : (level : ℕ) × Contains (line parent s s) level × Contains (hanging_by parent count level) n = joined_from (hanging_by parent count) n (line parent s s) c in
      let up : (levels : ℕ) × (r.0 ≡ above parent levels s) = line_above parent root earlier s r.0 r.1 in
      let h = hanging_hangs r.0 n r.2 in
      record { there = hanging_there r.0 n r.2; below_root = h.0; levels = up.0; hangs = h.1 ∙ up.1 }

  pub applies_applying : (s n : ℕ) → Applies parent count n s → Contains (applying_by parent count s) n
  unfolding applying_by
  applies_applying s n a =
      Contains-joined (hanging_by parent count) (above parent a.levels s) n (hangs_hanging (above parent a.levels s) n a.there a.below_root a.hangs)
      (line parent s s) (above_line parent root earlier s a.levels)

  hanging-depth : (level n : ℕ) → Contains (hanging_by parent count level) n → depth_by parent n ≡ depth_by parent level + 1
  hanging-depth level n c =
      let h = hanging_hangs level n c in
      depth-below parent root earlier n h.0 ∙ ap (λ (m : ℕ). depth_by parent m + 1) h.1

  same_level : (level : ℕ) → AllPairs (Precedes parent) (hanging_by parent count level)
  unfolding hanging_by
  same_level level =
      pairs_weaker (λ m n. m < n) (Precedes parent) (filter (hangs_by parent level) (range_with_len 0 count))
      (λ m n on also before. inr (hanging-depth level m on ∙ sym (hanging-depth level n also), before))
      (AllPairs-filter (λ m n. m < n) (hangs_by parent level) (range_with_len 0 count) (pairs_range count))

  two_levels : (a b : ℕ) → depth_by parent a < depth_by parent b → (m n : ℕ) → Contains (hanging_by parent count a) m → Contains (hanging_by parent count b) n
      → Precedes parent m n
  two_levels a b above m n on also =
      let d = hanging-depth a m on in
      let e = hanging-depth b n also in
      inl (omega arith)

  pub applying_in_order : (s : ℕ) → AllPairs (Precedes parent) (applying_by parent count s)
  unfolding applying_by
  applying_in_order s =
      pairs_joined (λ a b. depth_by parent a < depth_by parent b) (Precedes parent) (hanging_by parent count) same_level two_levels
      (line parent s s) (line-deeper parent root earlier s)
