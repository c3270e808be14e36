-- The line of an element: its last step, its members, and how deep it is.
use Rattle.std.proofs.Common.{◌≡◌, ℕ, zero, suc, ◌+◌, ◌<◌, ◌≤◌, List, [], ◌∷◌, ◌++◌, ◌⊎◌, inl, inr, length, reverse, refl, sym, ap, subst, ◌∙◌, append_assoc, length-append, arith}
use Rattle.std.specs.List.{Contains, AllPairs}
use Rattle.std.proofs.lemmas.List.{reverse-append}
use Rattle.std.proofs.lemmas.List.Elements.{Contains-append_left, Contains-push, Contains-push_cases}
use Rattle.scope_resolver.specs.Ancestry.{above, line, depth_by}
use Rattle.scope_resolver.proofs.OrderLaws.{pairs_one, pairs_append}

no_member : (a : ℕ) → Contains [] a → ⊥
no_member a h = omega (arith, h.1)

only_member : (n a : ℕ) → Contains (n ∷ []) a → a ≡ n
only_member n a h = by_case (Contains-push_cases [] n a h) where
  by_case : Contains [] a ⊎ (n ≡ a) → a ≡ n
  by_case (inl none) = absurd (no_member a none)
  by_case (inr is) = sym is

module _ (parent : ℕ → ℕ) (root : parent 0 ≡ 0) (earlier : (n : ℕ) → parent (suc n) ≤ n) where
  -- more steps than the number lead no further
  line_same : (a b n : ℕ) → n ≤ a → n ≤ b → line parent a n ≡ line parent b n
  unfolding line
  line_same zero zero n h k = refl
  line_same zero (suc b) zero h k = refl
  line_same zero (suc b) (suc n) h k = absurd (omega arith)
  line_same (suc a) zero zero h k = refl
  line_same (suc a) zero (suc n) h k = absurd (omega arith)
  line_same (suc a) (suc b) zero h k = refl
  line_same (suc a) (suc b) (suc n) h k =
      let e = earlier n in
      ap (λ (xs : List ℕ). xs ++ suc n ∷ []) (line_same a b (parent (suc n)) (omega arith) (omega arith))

  -- the line of an element is that of its parent, and then the element
  line_below : (n : ℕ) → 0 < n → line parent n n ≡ line parent (parent n) (parent n) ++ n ∷ []
  unfolding line
  line_below zero h = absurd (omega arith)
  line_below (suc n) h = ap (λ (xs : List ℕ). xs ++ suc n ∷ []) (line_same n (parent (suc n)) (parent (suc n)) (earlier n) (omega arith))

  -- one step up
  pub line_step : (n : ℕ) (below whole : List ℕ) → 0 < n → whole ≡ line parent n n ++ reverse below
      → whole ≡ line parent (parent n) (parent n) ++ reverse (below ++ n ∷ [])
  line_step n below whole h is =
      is ∙ ap (λ (xs : List ℕ). xs ++ reverse below) (line_below n h)
      ∙ append_assoc (line parent (parent n) (parent n)) (n ∷ []) (reverse below)
      ∙ ap (λ (xs : List ℕ). line parent (parent n) (parent n) ++ xs) (sym (reverse-append below (n ∷ [])))

  -- the root is reached
  pub line_reached : (n : ℕ) (below whole : List ℕ) → n ≤ 0 → whole ≡ line parent n n ++ reverse below → reverse (below ++ n ∷ []) ≡ whole
  unfolding line
  line_reached zero below whole h is = reverse-append below (0 ∷ []) ∙ sym is
  line_reached (suc n) below whole h is = absurd (omega arith)

  further_up : (n a : ℕ) (higher : List ℕ) → Contains (higher ++ suc n ∷ []) a → (Contains higher a → (levels : ℕ) × (a ≡ above parent levels (parent (suc n))))
      → (levels : ℕ) × (a ≡ above parent levels (suc n))
  unfolding above
  further_up n a higher c at_parent = by_case (Contains-push_cases higher (suc n) a c) where
    by_case : Contains higher a ⊎ (suc n ≡ a) → (levels : ℕ) × (a ≡ above parent levels (suc n))
    by_case (inl further) = (suc (at_parent further).0, (at_parent further).1)
    by_case (inr is) = (0, sym is)

  -- what is on a line stands that many levels above its end
  on_line : (steps n a : ℕ) → n ≤ steps → Contains (line parent steps n) a → (levels : ℕ) × (a ≡ above parent levels n)
  unfolding line above
  on_line zero n a h c = (0, only_member n a c)
  on_line (suc steps) zero a h c = (0, only_member 0 a c)
  on_line (suc steps) (suc n) a h c =
      let e = earlier n in
      further_up n a (line parent steps (parent (suc n))) c (on_line steps (parent (suc n)) a (omega arith))

  -- what is on the line of an element stands that many levels above it
  pub line_above : (n a : ℕ) → Contains (line parent n n) a → (levels : ℕ) × (a ≡ above parent levels n)
  line_above n a c = on_line n n a (omega arith) c

  -- what stands that many levels above an element is on its line
  stands_on : (levels steps n : ℕ) → n ≤ steps → Contains (line parent steps n) (above parent levels n)
  unfolding line above
  stands_on zero zero n h = Contains-push [] n
  stands_on zero (suc steps) zero h = Contains-push [] 0
  stands_on zero (suc steps) (suc n) h = Contains-push (line parent steps (parent (suc n))) (suc n)
  stands_on (suc levels) zero zero h = let P : ℕ → Type 0 = λ p. Contains (0 ∷ []) (above parent levels p) in subst P (sym root) (stands_on levels zero zero h)
  stands_on (suc levels) zero (suc n) h = absurd (omega arith)
  stands_on (suc levels) (suc steps) zero h =
      let P : ℕ → Type 0 = λ p. Contains (0 ∷ []) (above parent levels p) in subst P (sym root) (stands_on levels (suc steps) zero h)
  stands_on (suc levels) (suc steps) (suc n) h =
      let e = earlier n in
      Contains-append_left (line parent steps (parent (suc n))) (suc n ∷ []) (above parent levels (parent (suc n))) (stands_on levels steps (parent (suc n)) (omega arith))

  pub above_line : (n levels : ℕ) → Contains (line parent n n) (above parent levels n)
  above_line n levels = stands_on levels n n (omega arith)

  abbrev depth : ℕ → ℕ
  depth = depth_by parent

  pub depth-below : (n : ℕ) → 0 < n → depth n ≡ depth (parent n) + 1
  depth-below n h = ap length (line_below n h) ∙ length-append (line parent (parent n) (parent n)) (n ∷ [])

  depth-parent : (n : ℕ) → depth (parent n) ≤ depth n
  depth-parent zero = rw root (omega arith)
  depth-parent (suc n) = let e = depth-below (suc n) (omega arith) in omega arith

  depth-above : (levels n : ℕ) → depth (above parent levels n) ≤ depth n
  unfolding above
  depth-above zero n = omega arith
  depth-above (suc levels) n =
      let a = depth-above levels (parent n) in
      let b = depth-parent n in
      omega arith

  -- what is on a line is no deeper than its end
  depth-on_line : (steps n a : ℕ) → n ≤ steps → Contains (line parent steps n) a → depth a ≤ depth n
  depth-on_line steps n a h c =
      let r : (levels : ℕ) × (a ≡ above parent levels n) = on_line steps n a h c in
      let P : ℕ → Type 0 = λ m. depth m ≤ depth n in
      subst P (sym r.1) (depth-above r.0 n)

  -- each element of a line is deeper than all before it
  deeper : (steps n : ℕ) → n ≤ steps → AllPairs (λ a b. depth a < depth b) (line parent steps n)
  unfolding line
  deeper zero n h = pairs_one (λ a b. depth a < depth b) n
  deeper (suc steps) zero h = pairs_one (λ a b. depth a < depth b) 0
  deeper (suc steps) (suc n) h =
      let e = earlier n in
      pairs_append (λ a b. depth a < depth b) (line parent steps (parent (suc n))) (suc n ∷ []) (deeper steps (parent (suc n)) (omega arith))
      (pairs_one (λ a b. depth a < depth b) (suc n))
      (λ a b on is. below_end n a b (depth-on_line steps (parent (suc n)) a (omega arith) on) (only_member (suc n) b is)) where
        below_end : (n a b : ℕ) → depth a ≤ depth (parent (suc n)) → b ≡ suc n → depth a < depth b
        below_end n a b high is =
            let d = depth-below (suc n) (omega arith) in
            let P : ℕ → Type 0 = λ m. depth a < depth m in
            subst P (sym is) (omega arith)

  pub line-deeper : (n : ℕ) → AllPairs (λ a b. depth a < depth b) (line parent n n)
  line-deeper n = deeper n n (omega arith)
