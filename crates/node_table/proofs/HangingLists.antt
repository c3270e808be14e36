-- Lists that numbers are added to, one after another, by what is above each and by a test.
use Rattle.std.proofs.Common.{◌≡◌, ◌≢◌, ℕ, zero, suc, ◌+◌, ◌<◌, Bool, true, false, ◌&&◌, cond, List, [], ◌∷◌, ◌++◌, length, get_or, set, refl, sym, ap, subst, ◌∙◌, true≢false, arith, eq-eqb, get_or-set_same, get_or-set_other, length-set}
use Rattle.std.specs.Prelude.{nat_eq, nat_lt}
use Rattle.std.specs.List.{filter, range_with_len}
use Rattle.std.proofs.lemmas.Bool.{eqb-true}
use Rattle.std.proofs.lemmas.List.{append-nil}
use Rattle.std.proofs.lemmas.List.Elements.{filter-append}
use Rattle.scope_resolver.specs.Ancestry.{hangs_by}

range_more : (a n : ℕ) → range_with_len a (suc n) ≡ range_with_len a n ++ (a + n) ∷ []
range_more a zero = let P : ℕ → Type 0 = λ m. a ∷ [] ≡ m ∷ [] in subst P (omega arith) refl
range_more a (suc n) =
    let e : a + 1 + n ≡ a + suc n = omega arith in
    ap (λ (xs : List ℕ). a ∷ xs) (range_more (a + 1) n ∙ ap (λ (m : ℕ). range_with_len (a + 1) n ++ m ∷ []) e)

-- one number more, tried by two tests
both_more : (p q : ℕ → Bool) (n : ℕ) → filter p (filter q (range_with_len 0 (n + 1))) ≡ filter p (filter q (range_with_len 0 n)) ++ filter p (cond (q n) (n ∷ []) [])
both_more p q n =
    let e : n + 1 ≡ suc n = omega arith in
    let z : 0 + n ≡ n = omega arith in
    ap (λ (m : ℕ). filter p (filter q (range_with_len 0 m))) e
    ∙ ap (λ (xs : List ℕ). filter p (filter q xs)) (range_more 0 n ∙ ap (λ (m : ℕ). range_with_len 0 n ++ m ∷ []) z)
    ∙ ap (filter p) (filter-append q (range_with_len 0 n) (n ∷ []))
    ∙ filter-append p (filter q (range_with_len 0 n)) (cond (q n) (n ∷ []) [])

module _ (parent : ℕ → ℕ) (test : ℕ → Bool) (count : ℕ) where
  -- what hangs on this one, of the numbers below k, and passes the test
  abbrev pub hung : ℕ → ℕ → List ℕ
  hung k level = filter test (filter (hangs_by parent level) (range_with_len 0 k))

  pub record HungBelow (k : ℕ) (lists : List (List ℕ)) : Type 0 where
    pub long : length lists ≡ count
    pub each : (n : ℕ) → n < count → get_or lists n [] ≡ hung k n

  -- a number that hangs nowhere, or fails the test
  left_out : (k level : ℕ) (a b c : Bool) → nat_lt 0 k ≡ a → nat_eq (parent k) level ≡ b → test k ≡ c → (a && c) ≡ false → hung (k + 1) level ≡ hung k level
  left_out k level true b true z y t h = absurd (true≢false h)
  left_out k level true true false z y t h = both_more test (hangs_by parent level) k ∙ ap (λ (d : Bool). hung k level ++ filter test (cond d (k ∷ []) [])) both
      ∙ ap (λ (d : Bool). hung k level ++ cond d (k ∷ []) []) t ∙ append-nil (hung k level) where
        both : hangs_by parent level k ≡ true
        both = ap (λ (d : Bool). d && nat_eq (parent k) level) z ∙ y
  left_out k level true false false z y t h = both_more test (hangs_by parent level) k
      ∙ ap (λ (d : Bool). hung k level ++ filter test (cond d (k ∷ []) [])) (ap (λ (d : Bool). d && nat_eq (parent k) level) z ∙ y) ∙ append-nil (hung k level)
  left_out k level false b c z y t h = both_more test (hangs_by parent level) k
      ∙ ap (λ (d : Bool). hung k level ++ filter test (cond d (k ∷ []) [])) (ap (λ (d : Bool). d && nat_eq (parent k) level) z) ∙ append-nil (hung k level)

  pub hung_left : (k : ℕ) (lists : List (List ℕ)) → (nat_lt 0 k && test k) ≡ false → HungBelow k lists → HungBelow (k + 1) lists
  hung_left k lists h l = record {
    long = l.long;
    each = λ n there. l.each n there ∙ sym (left_out k n (nat_lt 0 k) (nat_eq (parent k) n) (test k) refl refl refl h);
  }

  added : (k level : ℕ) → nat_lt 0 k ≡ true → test k ≡ true → (b : Bool) → nat_eq (parent k) level ≡ b → hung (k + 1) level ≡ hung k level ++ cond b (k ∷ []) []
  added k level z t true y = both_more test (hangs_by parent level) k ∙ ap (λ (d : Bool). hung k level ++ filter test (cond d (k ∷ []) [])) (ap (λ (d : Bool). d && nat_eq (parent k) level) z ∙ y)
      ∙ ap (λ (d : Bool). hung k level ++ cond d (k ∷ []) []) t
  added k level z t false y = both_more test (hangs_by parent level) k ∙ ap (λ (d : Bool). hung k level ++ filter test (cond d (k ∷ []) [])) (ap (λ (d : Bool). d && nat_eq (parent k) level) z ∙ y)

  one_added : (k level n : ℕ) (lists more : List (List ℕ)) → level ≡ parent k → nat_lt 0 k ≡ true → test k ≡ true → more ≡ set lists level (get_or lists level [] ++ k ∷ [])
      → n < length lists → get_or lists n [] ≡ hung k n → (b : Bool) → nat_eq (parent k) n ≡ b → get_or more n [] ≡ hung (k + 1) n
  one_added k level n lists more is z t put there before true same =
      let e : level ≡ n = is ∙ eqb-true (parent k) n same in
      let there_level : level < length lists = omega (arith, e) in
      ap (λ (xs : List (List ℕ)). get_or xs n []) put ∙ ap (λ (m : ℕ). get_or (set lists level (get_or lists level [] ++ k ∷ [])) m []) (sym e)
      ∙ get_or-set_same lists level (get_or lists level [] ++ k ∷ []) [] there_level ∙ ap (λ (m : ℕ). get_or lists m [] ++ k ∷ []) e ∙ ap (λ (xs : List ℕ). xs ++ k ∷ []) before
      ∙ sym (added k n z t true same)
  one_added k level n lists more is z t put there before false same =
      let other : n ≢ level = λ e. true≢false (sym (eq-eqb (parent k) n (sym is ∙ sym e)) ∙ same) in
      ap (λ (xs : List (List ℕ)). get_or xs n []) put ∙ get_or-set_other lists level n (get_or lists level [] ++ k ∷ []) [] other ∙ before
      ∙ sym (added k n z t false same ∙ append-nil (hung k n))

  pub hung_more : (k level : ℕ) (lists more : List (List ℕ)) → level ≡ parent k → nat_lt 0 k ≡ true → test k ≡ true → more ≡ set lists level (get_or lists level [] ++ k ∷ [])
      → HungBelow k lists → HungBelow (k + 1) more
  hung_more k level lists more is z t put l = record {
    long = ap length put ∙ length-set lists level (get_or lists level [] ++ k ∷ []) ∙ l.long;
    each = λ n h.
        let there : n < length lists = omega (arith, l.long) in
        one_added k level n lists more is z t put there (l.each n h) (nat_eq (parent k) n) refl;
  }
