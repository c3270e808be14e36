-- A lock's word is odd while exactly one thread has its section open, and even while none has.
use Rattle.std.proofs.Common.{◌≡◌, ◌≢◌, ◌⊎◌, inl, inr, ℕ, zero, suc, ◌+◌, ◌<◌, true, false, List, [], ◌∷◌, Option, Some, None, length, set, get_or, refl, sym, ap, ◌∙◌, subst, arith}
use Rattle.std.specs.Prelude.{slice_get, replicate}
use Rattle.std.proofs.lemmas.Bool.Decides.{nat_tests}
use Rattle.std.proofs.lemmas.List.{get_or-set_same, get_or-set_other}
use Rattle.std.proofs.lemmas.Option.{slice_get_past}
use Rattle.phaser_core.specs.Cells.{is_odd}
use Rattle.weave_engine.specs.Exclusive.{Exclusive}

odd_after : (n : ℕ) → is_odd n ≡ false → is_odd (n + 1) ≡ true
odd_after n even = grind (arith, nat_tests)

even_after : (n : ℕ) → is_odd n ≡ true → is_odd (n + 1) ≡ false
even_after n odd = grind (arith, nat_tests)

same_some : {A : Type 0} {a b : A} → Some a ≡ Some b → a ≡ b
same_some h = cc

-- what stands at a place of a list in which one place is set
at_place : {A : Type 0} (xs : List A) (d k : ℕ) (x y : A) → slice_get (set xs d x) k ≡ Some y → ((k ≡ d) × (y ≡ x)) ⊎ ((k ≡ d → ⊥) × (slice_get xs k ≡ Some y))
at_place [] d k x y there = absurd (let e : None ≡ Some y = sym (slice_get_past [] k (omega arith)) ∙ there in cc)
at_place (z ∷ zs) zero zero x y there = inl (refl, sym (same_some there))
at_place (z ∷ zs) zero (suc k) x y there = inr ((λ e. omega (arith, e)), there)
at_place (z ∷ zs) (suc d) zero x y there = inr ((λ e. omega (arith, e)), there)
at_place (z ∷ zs) (suc d) (suc k) x y there = elim (at_place zs d k x y there) [
  | inl h ↦ inl (ap suc h.0, h.1)
  | inr h ↦ inr ((λ e. h.0 (omega (arith, e))), h.1)
]

pub put_place : {A : Type 0} (xs : List A) (d : ℕ) (x y : A) → slice_get xs d ≡ Some y → slice_get (set xs d x) d ≡ Some x
put_place [] d x y there = absurd (let e : None ≡ Some y = sym (slice_get_past [] d (omega arith)) ∙ there in cc)
put_place (z ∷ zs) zero x y there = refl
put_place (z ∷ zs) (suc d) x y there = put_place zs d x y there

keep_place : {A : Type 0} (xs : List A) (d k : ℕ) (x : A) → (k ≡ d → ⊥) → slice_get (set xs d x) k ≡ slice_get xs k
keep_place [] d k x ne = refl
keep_place (z ∷ zs) zero zero x ne = absurd (ne refl)
keep_place (z ∷ zs) zero (suc k) x ne = refl
keep_place (z ∷ zs) (suc d) zero x ne = refl
keep_place (z ∷ zs) (suc d) (suc k) x ne = keep_place zs d k x (λ e. ne (ap suc e))

-- an odd word stands within the list
within_words : (ws : List ℕ) (l : ℕ) → is_odd (get_or ws l 0) ≡ true → l < length ws
within_words [] l odd = absurd (let e : false ≡ true = odd in cc)
within_words (w ∷ ws) zero odd = omega arith
within_words (w ∷ ws) (suc l) odd = let below = within_words ws l odd in omega (arith, below)

pub whether : (k d : ℕ) → (k ≡ d) ⊎ (k ≡ d → ⊥)
whether zero zero = inl refl
whether zero (suc d) = inr (λ e. omega (arith, e))
whether (suc k) zero = inr (λ e. omega (arith, e))
whether (suc k) (suc d) = elim (whether k d) [ inl e ↦ inl (ap suc e) | inr ne ↦ inr (λ e. ne (omega (arith, e))) ]

module _ (opens : List (Option ℕ)) (ws : List ℕ) (h : Exclusive opens ws) (d l : ℕ) where
  abbrev more : List ℕ
  more = set ws l (get_or ws l 0 + 1)

  other_word : (m : ℕ) → (m ≡ l → ⊥) → get_or more m 0 ≡ get_or ws m 0
  other_word m ne = let apart : m ≢ l = ne in get_or-set_other ws l m (get_or ws l 0 + 1) 0 apart

  own_word : l < length ws → get_or more l 0 ≡ get_or ws l 0 + 1
  own_word within = get_or-set_same ws l (get_or ws l 0 + 1) 0 within

  -- a thread with no section open enters one that is free
  pub enters : slice_get opens d ≡ Some None → l < length ws → is_odd (get_or ws l 0) ≡ false → Exclusive (set opens d (Some l)) more
  enters free within even = record {
    opened = λ m odd. elim (whether m l) [
      | inl e ↦ (d, put_place opens d (Some l) None free ∙ ap (λ k. Some (Some k)) (sym e))
      | inr ne ↦
          let p = h.opened m (ap is_odd (sym (other_word m ne)) ∙ odd) in
          (p.0, keep_place opens d p.0 (Some l) (λ e. (let both : Some None ≡ Some (Some m) = sym free ∙ ap (slice_get opens) (sym e) ∙ p.1 in cc)) ∙ p.1)
    ];
    odd = λ k m there. elim (at_place opens d k (Some l) (Some m) there) [
      | inl p ↦ subst (λ i. is_odd (get_or more i 0) ≡ true) (sym (same_some p.1)) (ap is_odd (own_word within) ∙ odd_after (get_or ws l 0) even)
      | inr p ↦ ap is_odd (other_word m (λ e. (let bad : true ≡ false = sym (h.odd k m p.1) ∙ ap (λ i. is_odd (get_or ws i 0)) e ∙ even in cc))) ∙ h.odd k m p.1
    ];
    alone = λ j k m a b. elim (at_place opens d j (Some l) (Some m) a) [
      | inl p ↦ elim (at_place opens d k (Some l) (Some m) b) [
        | inl q ↦ p.0 ∙ sym q.0
        | inr q ↦ absurd (let bad : true ≡ false = sym (h.odd k m q.1) ∙ ap (λ i. is_odd (get_or ws i 0)) (same_some p.1) ∙ even in cc)
      ]
      | inr p ↦ elim (at_place opens d k (Some l) (Some m) b) [
        | inl q ↦ absurd (let bad : true ≡ false = sym (h.odd j m p.1) ∙ ap (λ i. is_odd (get_or ws i 0)) (same_some q.1) ∙ even in cc)
        | inr q ↦ h.alone j k m p.1 q.1
      ]
    ];
  }

  -- and it leaves the one that it has open
  pub leaves : slice_get opens d ≡ Some (Some l) → Exclusive (set opens d None) more
  leaves here =
      let odd_here : is_odd (get_or ws l 0) ≡ true = h.odd d l here in
      let within : l < length ws = within_words ws l odd_here in
      let even_now : is_odd (get_or more l 0) ≡ false = ap is_odd (own_word within) ∙ even_after (get_or ws l 0) odd_here in
      record {
        opened = λ m odd. elim (whether m l) [
          | inl e ↦ absurd (let bad : true ≡ false = sym odd ∙ ap (λ i. is_odd (get_or more i 0)) e ∙ even_now in cc)
          | inr ne ↦
              let p = h.opened m (ap is_odd (sym (other_word m ne)) ∙ odd) in
              (p.0, keep_place opens d p.0 None (λ e. ne (same_some (same_some (sym p.1 ∙ ap (slice_get opens) e ∙ here)))) ∙ p.1)
        ];
        odd = λ k m there. elim (at_place opens d k None (Some m) there) [
          | inl p ↦ absurd (let bad : Some m ≡ None = p.1 in cc)
          | inr p ↦ ap is_odd (other_word m (λ e. p.0 (h.alone k d l (p.1 ∙ ap (λ i. Some (Some i)) e) here))) ∙ h.odd k m p.1
        ];
        alone = λ j k m a b. elim (at_place opens d j None (Some m) a) [
          | inl p ↦ absurd (let bad : Some m ≡ None = p.1 in cc)
          | inr p ↦ elim (at_place opens d k None (Some m) b) [
            | inl q ↦ absurd (let bad : Some m ≡ None = q.1 in cc)
            | inr q ↦ h.alone j k m p.1 q.1
          ]
        ];
      }

-- before the first turn no section is open
pub zero_at : (count k : ℕ) → get_or {A = ℕ} (replicate count 0) k 0 ≡ 0
zero_at zero k = refl
zero_at (suc count) zero = refl
zero_at (suc count) (suc k) = zero_at count k

pub none_open : (opens : List (Option ℕ)) (count : ℕ) → ((k : ℕ) (o : Option ℕ) → slice_get opens k ≡ Some o → o ≡ None) → Exclusive opens (replicate count 0)
none_open opens count none = record {
  opened = λ l odd. absurd (let bad : true ≡ false = sym odd ∙ ap is_odd (zero_at count l) in cc);
  odd = λ k l there. absurd (let bad : Some l ≡ None = none k (Some l) there in cc);
  alone = λ j k l a b. absurd (let bad : Some l ≡ None = none j (Some l) a in cc);
}
