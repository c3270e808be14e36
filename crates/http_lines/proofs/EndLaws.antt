-- Where lines end, in a text and a text after it.
use Rattle.std.proofs.Common.{◌≡◌, ℕ, ◌+◌, ◌<◌, ◌≤◌, ◌⊎◌, inl, inr, Bool, true, false, List, [], ◌∷◌, ◌++◌, length, take, Option, Some, None, refl, sym, ap, ◌∙◌, arith, cond, add-one, subst, suc}
use Rattle.std.specs.Option.{option_map}
use Rattle.http_lines.specs.declared.scan.Scan.{Scan}
use Rattle.http_lines.specs.SectionEnds.{section_end, scanned, next_scan, is_last}

pub chosen : {A : Type 0} (b : Bool) (x y z : A) → cond b x y ≡ z → ((b ≡ true) × (x ≡ z)) ⊎ ((b ≡ false) × (y ≡ z))
chosen true x y z h = inl (refl, h)
chosen false x y z h = inr (refl, h)

-- one more than a number that there is
more-some : (o : Option ℕ) (n : ℕ) → option_map (λ m. m + 1) o ≡ Some n → (m : ℕ) × (o ≡ Some m) × (n ≡ m + 1)
more-some None n h = cc
more-some (Some m) n h = let e : m + 1 ≡ n = cc in (m, refl, sym e)

more-none : (o : Option ℕ) → option_map (λ m. m + 1) o ≡ None → o ≡ None
more-none None h = refl
more-none (Some m) h = cc

map-zero : (o : Option ℕ) → o ≡ option_map (λ n. 0 + n) o
map-zero None = refl
map-zero (Some n) = let e : n ≡ 0 + n = omega arith in ap Some e

map-suc : (k : ℕ) (o : Option ℕ) → option_map (λ n. n + 1) (option_map (λ n. k + n) o) ≡ option_map (λ n. suc k + n) o
map-suc k None = refl
map-suc k (Some n) = let e : k + n + 1 ≡ suc k + n = omega arith in ap Some e

Cases : Scan → ℕ → List ℕ → Option ℕ → Type 0
Cases s x a o = ((is_last s x ≡ true) × (Some 1 ≡ o)) ⊎ ((is_last s x ≡ false) × (option_map (λ n. n + 1) (section_end (next_scan s x) a) ≡ o))

cases : (s : Scan) (x : ℕ) (a : List ℕ) (o : Option ℕ) → section_end s (x ∷ a) ≡ o → Cases s x a o
unfolding Cases
cases s x a o h = chosen (is_last s x) (Some 1) (option_map (λ n. n + 1) (section_end (next_scan s x) a)) o h

-- an end that is not yet there
append-step : (s : Scan) (x : ℕ) (a b : List ℕ) → Cases s x a None
    → (section_end (next_scan s x) a ≡ None → section_end (next_scan s x) (a ++ b) ≡ option_map (λ n. length a + n) (section_end (scanned (next_scan s x) a) b))
    → section_end s ((x ∷ a) ++ b) ≡ option_map (λ n. length (x ∷ a) + n) (section_end (scanned s (x ∷ a)) b)
unfolding Cases
append-step s x a b (inl k) ih = let e : Some 1 ≡ None = k.1 in cc
append-step s x a b (inr k) ih =
    ap (λ c. cond c (Some 1) (option_map (λ n. n + 1) (section_end (next_scan s x) (a ++ b)))) k.0
    ∙ ap (option_map (λ n. n + 1)) (ih (more-none (section_end (next_scan s x) a) k.1))
    ∙ map-suc (length a) (section_end (scanned (next_scan s x) a) b)

pub end-append : (s : Scan) (a b : List ℕ) → section_end s a ≡ None → section_end s (a ++ b) ≡ option_map (λ n. length a + n) (section_end (scanned s a) b)
end-append s [] b h = map-zero (section_end s b)
end-append s (x ∷ a) b h = append-step s x a b (cases s x a None h) (end-append (next_scan s x) a b)

-- an end that is there
stable-step : (s : Scan) (x : ℕ) (a b : List ℕ) (n : ℕ) → Cases s x a (Some n)
    → ((m : ℕ) → section_end (next_scan s x) a ≡ Some m → section_end (next_scan s x) (a ++ b) ≡ Some m)
    → section_end s ((x ∷ a) ++ b) ≡ Some n
unfolding Cases
stable-step s x a b n (inl k) ih = ap (λ c. cond c (Some 1) (option_map (λ m. m + 1) (section_end (next_scan s x) (a ++ b)))) k.0 ∙ k.1
stable-step s x a b n (inr k) ih =
    let m = more-some (section_end (next_scan s x) a) n k.1 in
    ap (λ c. cond c (Some 1) (option_map (λ p. p + 1) (section_end (next_scan s x) (a ++ b)))) k.0
    ∙ ap (option_map (λ p. p + 1)) (ih m.0 m.1) ∙ ap Some (sym m.2)

pub end-stable : (s : Scan) (a b : List ℕ) (n : ℕ) → section_end s a ≡ Some n → section_end s (a ++ b) ≡ Some n
end-stable s [] b n h = cc
end-stable s (x ∷ a) b n h = stable-step s x a b n (cases s x a (Some n) h) (end-stable (next_scan s x) a b)

within-step : (s : Scan) (x : ℕ) (a : List ℕ) (n : ℕ) → Cases s x a (Some n)
    → ((m : ℕ) → section_end (next_scan s x) a ≡ Some m → (0 < m) × (m ≤ length a)) → (0 < n) × (n ≤ length (x ∷ a))
unfolding Cases
within-step s x a n (inl k) ih = let i : Some 1 ≡ Some n = k.1 in let e : 1 ≡ n = cc in (omega (arith, e), omega (arith, e))
within-step s x a n (inr k) ih =
    let m = more-some (section_end (next_scan s x) a) n k.1 in
    let e : n ≡ m.0 + 1 = m.2 in
    let le : m.0 ≤ length a = (ih m.0 m.1).1 in
    (omega (arith, e), omega (arith, e, le))

pub end-within : (s : Scan) (a : List ℕ) (n : ℕ) → section_end s a ≡ Some n → (0 < n) × (n ≤ length a)
end-within s [] n h = cc
end-within s (x ∷ a) n h = within-step s x a n (cases s x a (Some n) h) (end-within (next_scan s x) a)

-- the text up to its end
prefix : (s : Scan) (x : ℕ) (a : List ℕ) (m : ℕ) (o : Option ℕ) → cond (is_last s x) (Some 1) (option_map (λ p. p + 1) (section_end (next_scan s x) (take m a))) ≡ o
    → section_end s (take (m + 1) (x ∷ a)) ≡ o
prefix s x a m o k = rw (add-one) k

take-step : (s : Scan) (x : ℕ) (a : List ℕ) (n : ℕ) → Cases s x a (Some n)
    → ((m : ℕ) → section_end (next_scan s x) a ≡ Some m → section_end (next_scan s x) (take m a) ≡ Some m) → section_end s (take n (x ∷ a)) ≡ Some n
unfolding Cases
take-step s x a n (inl k) ih =
    let i : Some 1 ≡ Some n = k.1 in
    let e : n ≡ 0 + 1 = let j : 1 ≡ n = cc in omega (arith, j) in
    subst (λ n. section_end s (take n (x ∷ a)) ≡ Some n) (sym e)
    (prefix s x a 0 (Some (0 + 1)) (ap (λ c. cond c (Some 1) (option_map (λ p. p + 1) (section_end (next_scan s x) (take 0 a)))) k.0))
take-step s x a n (inr k) ih =
    let m = more-some (section_end (next_scan s x) a) n k.1 in
    subst (λ n. section_end s (take n (x ∷ a)) ≡ Some n) (sym m.2)
    (prefix s x a m.0 (Some (m.0 + 1)) (ap (λ c. cond c (Some 1) (option_map (λ p. p + 1) (section_end (next_scan s x) (take m.0 a)))) k.0
    ∙ ap (option_map (λ p. p + 1)) (ih m.0 m.1)))

pub end-take : (s : Scan) (a : List ℕ) (n : ℕ) → section_end s a ≡ Some n → section_end s (take n a) ≡ Some n
end-take s [] n h = cc
end-take s (x ∷ a) n h = take-step s x a n (cases s x a (Some n) h) (end-take (next_scan s x) a)

pub scanned-append : (s : Scan) (a b : List ℕ) → scanned s (a ++ b) ≡ scanned (scanned s a) b
scanned-append s [] b = refl
scanned-append s (x ∷ a) b = scanned-append (next_scan s x) a b
