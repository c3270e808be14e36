-- What comes after each number of a list.
use Rattle.std.proofs.Common.{◌≡◌, ℕ, zero, suc, ◌+◌, ◌<◌, ◌≤◌, Bool, true, false, cond, List, [], ◌∷◌, length, get_or, drop, Option, None, refl, sym, ap, ◌∙◌, true≢false, arith}
use Rattle.std.specs.Prelude.{nat_eq, nat_lt, if◌then◌else◌}
use Rattle.std.specs.List.{find}
use Rattle.std.proofs.lemmas.Bool.{eqb-true, lt-ltb}
use Rattle.std.proofs.lemmas.Bool.Decides.{nat_tests}
use Rattle.node_table.specs.ElementLinks.{later_than}
use Rattle.node_table.specs.Building.{after_or}

-- the number is one of these
abbrev pub is_in : ℕ → List ℕ → Bool
is_in n [] = false
is_in n (m ∷ ms) = if nat_eq m n then true else is_in n ms

-- ---- one list

pub after_in : (run : ℕ → Bool) (ms : List ℕ) (n : ℕ) (before : Option ℕ) → is_in n ms ≡ true → after_or run ms n before ≡ find run (later_than n ms)
after_in run [] n before h = absurd (true≢false (sym h))
after_in run (m ∷ ms) n before h = by_test (nat_eq m n) (after_in run ms n before) h where
  by_test : (b : Bool) → (is_in n ms ≡ true → after_or run ms n before ≡ find run (later_than n ms)) → cond b true (is_in n ms) ≡ true
      → cond b (find run ms) (after_or run ms n before) ≡ find run (cond b ms (later_than n ms))
  by_test true rest h = refl
  by_test false rest h = rest h

pub after_not_in : (run : ℕ → Bool) (ms : List ℕ) (n : ℕ) (before : Option ℕ) → is_in n ms ≡ false → after_or run ms n before ≡ before
after_not_in run [] n before h = refl
after_not_in run (m ∷ ms) n before h = by_test (nat_eq m n) (after_not_in run ms n before) h where
  by_test : (b : Bool) → (is_in n ms ≡ false → after_or run ms n before ≡ before) → cond b true (is_in n ms) ≡ false → cond b (find run ms) (after_or run ms n before) ≡ before
  by_test true rest h = absurd (true≢false h)
  by_test false rest h = rest h

pub none_later : (run : ℕ → Bool) (ms : List ℕ) (n : ℕ) → is_in n ms ≡ false → find run (later_than n ms) ≡ None
none_later run [] n h = refl
none_later run (m ∷ ms) n h = by_test (nat_eq m n) (none_later run ms n) h where
  by_test : (b : Bool) → (is_in n ms ≡ false → find run (later_than n ms) ≡ None) → cond b true (is_in n ms) ≡ false → find run (cond b ms (later_than n ms)) ≡ None
  by_test true rest h = absurd (true≢false h)
  by_test false rest h = rest h

-- ---- the children from a place on are linked

pub record LinkedFrom (run : ℕ → Bool) (children : List ℕ) (place : ℕ) (next : Option ℕ) (old now : List (Option ℕ)) : Type 0 where
  pub within : place ≤ length children
  pub count : length now ≡ length old
  pub next_ : next ≡ find run (drop place children)
  pub each : (n : ℕ) → n < length old → get_or now n None ≡ after_or run (drop place children) n (get_or old n None)

pub linked_from_all : (run : ℕ → Bool) (children : List ℕ) (place : ℕ) (next : Option ℕ) (old now : List (Option ℕ)) → place ≤ 0 → LinkedFrom run children place next old now
    → (n : ℕ) → n < length old → get_or now n None ≡ after_or run children n (get_or old n None)
linked_from_all run children zero next old now h l n there = l.each n there
linked_from_all run children (suc place) next old now h l n there = absurd (omega (arith, h))

-- ---- the children of the elements below a number are linked

at_more : (p k : ℕ) → p ≡ k → nat_lt p (k + 1) ≡ true
at_more p k e = lt-ltb p (k + 1) (omega (arith, e))

at_same : (p k : ℕ) → p ≡ k → nat_lt p k ≡ false
at_same p k e = grind (arith, nat_tests)

at_other : (p k : ℕ) → nat_eq p k ≡ false → nat_lt p (k + 1) ≡ nat_lt p k
at_other p k h = grind (arith, nat_tests)

module _ (run : ℕ → Bool) (parent : ℕ → ℕ) (children : ℕ → List ℕ) (count : ℕ) where
  abbrev pub after : ℕ → Option ℕ
  after n = find run (later_than n (children (parent n)))

  pub record LinkedBelow (k : ℕ) (afters : List (Option ℕ)) : Type 0 where
    pub long : length afters ≡ count
    pub each : (n : ℕ) → n < count → get_or afters n None ≡ cond (nat_lt (parent n) k) (after n) None

  below_one : (k n : ℕ) (was is : Option ℕ) → (is_in n (children k) ≡ true → parent n ≡ k) → was ≡ cond (nat_lt (parent n) k) (after n) None
      → is ≡ after_or run (children k) n was → (b : Bool) → is_in n (children k) ≡ b → (d : Bool) → nat_eq (parent n) k ≡ d → is ≡ cond (nat_lt (parent n) (k + 1)) (after n) None
  below_one k n was is below before now true there d same =
      let e = below there in
      now ∙ after_in run (children k) n was there ∙ ap (λ (p : ℕ). find run (later_than n (children p))) (sym e)
      ∙ ap (λ (b : Bool). cond b (after n) None) (sym (at_more (parent n) k e))
  below_one k n was is below before now false there true same =
      let e = eqb-true (parent n) k same in
      now ∙ after_not_in run (children k) n was there ∙ before ∙ ap (λ (b : Bool). cond b (after n) None) (at_same (parent n) k e)
      ∙ sym (none_later run (children k) n there) ∙ ap (λ (p : ℕ). find run (later_than n (children p))) (sym e)
      ∙ ap (λ (b : Bool). cond b (after n) None) (sym (at_more (parent n) k e))
  below_one k n was is below before now false there false other =
      now ∙ after_not_in run (children k) n was there ∙ before ∙ ap (λ (b : Bool). cond b (after n) None) (sym (at_other (parent n) k other))

  pub linked_below : (k : ℕ) (cs : List ℕ) (now more : List (Option ℕ)) → cs ≡ children k → ((n : ℕ) → is_in n cs ≡ true → parent n ≡ k) → LinkedBelow k now → length more ≡ length now
      → ((n : ℕ) → n < length now → get_or more n None ≡ after_or run cs n (get_or now n None)) → LinkedBelow (k + 1) more
  linked_below k cs now more is below l same_length linked = record {
    long = same_length ∙ l.long;
    each = λ n h.
        let there : n < length now = omega (arith, l.long) in
        below_one k n (get_or now n None) (get_or more n None) (λ i. below n (ap (is_in n) is ∙ i)) (l.each n h) (linked n there ∙ ap (λ (ms : List ℕ). after_or run ms n (get_or now n None)) is)
        (is_in n (children k)) refl (nat_eq (parent n) k) refl;
  }
