-- What each call's step asks, from the facts of `Keeps`; a seat that is made, one that is joined, and the end.
use Rattle.std.proofs.Common.{◌≡◌, ◌≢◌, ℕ, zero, suc, ◌+◌, ◌*◌, ◌/◌, ◌%◌, ◌^◌, ◌<◌, ◌≤◌, ◌==◌, eqb, ltb, List, [], ◌∷◌, ◌++◌, length, get_or, set, sym, refl, ap, ◌∙◌, subst, ⊎_elim, arith, Some, None, eq-eqb, ne_eqb, replicate}
use mathlib.Core.Logic.{dite}
use Rattle.std.proofs.lemmas.List.{length-replicate}
use mathlib.Core.Option.{none, some, some-injective, some-ne-none}
use native.Mathlib.Decide.{ℕ_discrete}
use lib.ListN.{get_elem?}
use prog.Atomic.{either}
use Rattle.atomic_table.specs.Table.{State, Me, step, keeps, Allows, Splits, Joins, opening, Final, Seen}
use Rattle.critical_section.specs.declared.rule.SeatView.{SeatView}
use Rattle.critical_section.specs.declared.rule.Limits.{Limits}
use Rattle.jm_base.specs.SumTotals.{total, one_if}
use Rattle.critical_section.specs.Book.{times, in_open, count_open, closed_in, open_in, entered, seats_of, spent, opened, closed, tried, gone, telling, itself, further_view, one_more, opening_view, taking, counted_of, FitsView, SectionInvariant, holds_of, loads, exchanges, leaves, IsPast, IsNumbered, IsAlone, Knows, OneSeatALock}
use Rattle.critical_section.specs.declared.rule.TheConstants.{MOST_SEATS, MOST_SECTIONS}
use Rattle.jm_base.proofs.Totals.{total_set, total_append, total_snoc, total_at, total_only, total_two}
use Rattle.critical_section.proofs.Keeps.{each_set, same_total, one_no, one_yes, enters_keep, tries_keep, leaves_keep, word_open, open_counts, one_if_low, fits}
use Rattle.std.proofs.lemmas.Bool.Decides.{nat_tests}
use Rattle.atomic_table.proofs.Lists.{at_set, at_snoc}

abbrev Sat : Type 0
Sat = Me (Unit {0}) SeatView

abbrev St : Type 0
St = State (Unit {0}) SeatView

-- what the first seat knows at the end: where it stands for all seats, each place below half of a lock's word stands once in its lists, and the word is even
pub ends : (n : Limits) (ws : List ℕ) (vs : List SeatView) (id : ℕ) (v : SeatView) → SectionInvariant n ws vs → get_elem? vs id ≡ some v → 0 < v.made → v.made ≡ v.seats → v.inside ≡ None
    → (lock place : ℕ) → lock < n.locks → (closed_in lock place v ≡ one_if (ltb place (get_or ws lock 0 / 2))) × (get_or ws lock 0 % 2 ≡ 0)
ends n ws vs id v k at is_first all none_open lock place inr =
    let first = (k.each id v at).first is_first in let people = k.people in
    let mine : total seats_of vs ≡ seats_of v = omega arith in
    let lost : (f : SeatView → ℕ) → ((c : ℕ) (t : List (List (ℕ × ℕ))) → f (gone c t) ≡ 0) → total f vs ≡ f v = λ f z.
    total_only f seats_of vs id v at mine (λ i x e h. ap f ((k.each i x e).left h) ∙ z x.counted x.remembered) in
    let shut : total (open_in lock (get_or ws lock 0 / 2)) vs ≡ 0 = lost (open_in lock (get_or ws lock 0 / 2)) (λ _ _. refl) ∙ ap (in_open lock (get_or ws lock 0 / 2)) none_open in
    let odd : get_or ws lock 0 ≡ 2 * (get_or ws lock 0 / 2) + 1 → ⊥ = λ e. let o = one_yes (get_or ws lock 0) (2 * (get_or ws lock 0 / 2) + 1) e in let w = k.open_once lock (get_or ws lock 0 / 2) inr in omega arith in
    (sym (lost (closed_in lock place) (λ _ _. refl)) ∙ k.closed_once lock place inr, dite (ℕ_discrete (get_or ws lock 0 % 2) 0) (λ e. e) (λ ne. absurd (odd (omega arith))))

knows : (n : Limits) (s : St) (id : ℕ) (v : SeatView) (lock : ℕ) → SectionInvariant n s.words s.views → get_elem? s.views id ≡ some v → lock < n.locks → Knows lock v (get_or s.words lock 0)
knows n s id v lock k at inr alone = ((ends n s.words s.views id v k at alone.0 alone.1 alone.2 lock 0 inr).1, λ place. (ends n s.words s.views id v k at alone.0 alone.1 alone.2 lock place inr).0)

-- two words that a seat knows are one
same_half : (a b : ℕ) → ((place : ℕ) → one_if (ltb place a) ≡ one_if (ltb place b)) → a ≡ b
same_half a b h = let x = h a in let y = h b in grind (arith, nat_tests)

pub known_once : (lock : ℕ) (v : SeatView) (x y : ℕ) → Knows lock v x → Knows lock v y → IsAlone v → x ≡ y
known_once lock v x y a b alone = let s = a alone in let t = b alone in let p = s.0 in let q = t.0 in
    let half : x / 2 ≡ y / 2 = same_half (x / 2) (y / 2) (λ place. sym (s.1 place) ∙ t.1 place) in omega arith

pub loads_allowed : (n : Limits) (slots id : ℕ) (me : Sat) (lock : ℕ) → lock < n.locks → me.0.seats ≢ 0 → Allows (holds_of n) slots id me lock (λ x. x) (loads (step slots lock 0 0 none) me)
loads_allowed n slots id me lock inr live s k _ at _ =
    let x : ℕ = get_or s.words lock 0 in
    (tried me.0 ((lock, x) ∷ []), keeps, tt, tries_keep n s.words s.views id me.0 k at ((lock, x) ∷ []) lock live, (refl, knows n s id me.0 lock k at inr))

-- a place at or past half of the word stands in no closed list of the seat
past : (n : Limits) (s : St) (id : ℕ) (v : SeatView) (lock : ℕ) → SectionInvariant n s.words s.views → get_elem? s.views id ≡ some v → lock < n.locks → IsPast lock (get_or s.words lock 0 / 2) v.own
past n s id v lock k at inr place h =
    let mine : closed_in lock place v ≤ total (closed_in lock place) s.views = total_at (closed_in lock place) s.views id v at in
    let all = k.closed_once lock place inr in
    let no : one_if (ltb place (get_or s.words lock 0 / 2)) ≡ 0 = grind (arith, nat_tests) in omega arith

pub exchanges_allowed : (n : Limits) (slots id : ℕ) (me : Sat) (lock seen : ℕ) → lock < n.locks → me.0.inside ≡ None → length me.0.own < MOST_SECTIONS → me.0.seats ≢ 0 → seen % 2 ≡ 0
    → Allows (holds_of n) slots id me lock (λ x. either (eqb x seen) (seen + 1) x) (exchanges (step slots lock seen (seen + 1) none) me)
exchanges_allowed n slots id me lock seen inr none_open few live even s k _ at _ =
    let x : ℕ = get_or s.words lock 0 in let words : List (ℕ × ℕ) = me.0.found ++ (lock, x) ∷ [] in dite (ℕ_discrete x seen)
    (λ hit. let p : ℕ = x / 2 in let w : SeatView = opened (tried me.0 words) (lock, p) in let is : x ≡ 2 * p = omega arith in (
      w,
      keeps,
      tt,
      subst (λ b. SectionInvariant n (set s.words lock (either b (seen + 1) x)) (set s.views id w)) (sym (eq-eqb x seen hit))
          (subst (λ (m : ℕ). SectionInvariant n (set s.words lock m) (set s.views id w)) (omega arith) (enters_keep n s.words s.views id me.0 k at words lock p inr none_open few is live)),
      (refl, (λ _. (refl, past n s id me.0 lock k at inr)), (λ not. absurd (not hit)), knows n s id me.0 lock k at inr),
    ))
    (λ miss. (
      tried me.0 words,
      keeps,
      tt,
      subst (λ b. SectionInvariant n (set s.words lock (either b (seen + 1) x)) (set s.views id (tried me.0 words))) (sym (ne_eqb x seen miss)) (tries_keep n s.words s.views id me.0 k at words lock live),
      (refl, (λ hit. absurd (miss hit)), (λ _. refl), knows n s id me.0 lock k at inr),
    ))

pub leaves_allowed : (n : Limits) (slots id : ℕ) (me : Sat) (lock p : ℕ) → lock < n.locks → me.0.inside ≡ Some (lock, p) → me.0.seats ≢ 0
    → Allows (holds_of n) slots id me lock (λ x. (x + 1) % 2 ^ 64) (leaves (step slots lock 1 0 none) me)
leaves_allowed n slots id me lock p inr is live s k _ at _ =
    let word = word_open n s.words s.views id me.0 k at lock p inr is in
    let low = k.bounded lock inr in let few = fits n s.words s.views id me.0 k at in
    let next : 2 * p + 2 ≡ (get_or s.words lock 0 + 1) % 2 ^ 64 = omega arith in
    (closed me.0, keeps, tt, subst (λ (m : ℕ). SectionInvariant n (set s.words lock m) (set s.views id (closed me.0))) next (leaves_keep n s.words s.views id me.0 k at lock p inr is live), refl)

-- a list of one
at_one : (F : ℕ → SeatView → Type 0) (v : SeatView) → F 0 v → (j : ℕ) (u : SeatView) → get_elem? (v ∷ []) j ≡ some u → F j u
at_one F v h zero u e = subst (F 0) (some-injective v u e) h
at_one F v h (suc j) u e = absurd (some-ne-none u (sym e))

-- the rule when the table is made
total_one : (f : SeatView → ℕ) (v : SeatView) → total f (v ∷ []) ≡ f v
total_one f v = omega arith

zero_at : (m i : ℕ) → get_or {A = ℕ} (replicate m 0) i 0 ≡ 0
zero_at zero i = refl
zero_at (suc m) zero = refl
zero_at (suc m) (suc i) = zero_at m i

pub opens : (n : Limits) → 1 ≤ n.seats → n.seats ≤ MOST_SEATS → holds_of n (opening (replicate n.locks 0) [] opening_view)
opens n some_seats few = let wide : length (replicate {A = ℕ} n.locks 0) ≡ n.locks = length-replicate n.locks 0 in record {
  wide = wide;
  most = few;
  made = some_seats;
  people = refl;
  closed_once = λ lock q r. let z = zero_at n.locks lock in let no : one_if (ltb q (get_or (replicate n.locks 0) lock 0 / 2)) ≡ 0 = grind (arith, nat_tests) in sym no;
  open_once = λ lock q r. let z = zero_at n.locks lock in sym (one_no (get_or (replicate n.locks 0) lock 0) (2 * q + 1) (λ e. omega arith));
  bounded = λ lock r. let z = zero_at n.locks lock in omega arith;
  each = λ id v e. at_one (λ j u. FitsView 1 j u) opening_view (record { first = λ _. (refl, refl); few = λ _. (omega arith, omega arith); one = λ _. refl; left = λ z. absurd (omega arith) }) id v e;
}

pub splits : (n : Limits) (id : ℕ) (v : SeatView) → 0 < v.made → v.made < n.seats → v.seats ≢ 0 → Splits (holds_of n) id v (one_more v) further_view
splits n id v is_first room live s k at =
    let w : SeatView = one_more v in let vs : List SeatView = set s.views id w in let us : List SeatView = vs ++ further_view ∷ [] in
    let mine = k.each id v at in let first = mine.first is_first in
    let same : (f : SeatView → ℕ) → f w ≡ f v → total f us ≡ total f s.views + f further_view = λ f is.
    let a = same_total f s.views id v w at is in let b = total_snoc f vs further_view in omega arith in
    let hands = same counted_of refl in let seats = same seats_of refl in let people = k.people in let ent = same entered refl in
    let more : total counted_of us ≡ total counted_of s.views + 1 = hands in
    record {
      wide = k.wide;
      most = k.most;
      made = omega arith;
      people = omega arith;
      closed_once = λ lock q r. let t = same (closed_in lock q) refl in let was = k.closed_once lock q r in omega arith;
      open_once = λ lock q r. let t = same (open_in lock q) refl in let was = k.open_once lock q r in omega arith;
      bounded = λ lock r. let was = k.bounded lock r in omega arith;
      each = λ j u e. ⊎_elim
          (λ a. each_set (FitsView (total counted_of us)) s.views id w
          (record { first = λ _. (first.0, omega arith); few = mine.few; one = mine.one; left = λ z. absurd (live z) })
          (λ i x ne b. let f = k.each i x b in record { first = λ h. absurd (ne ((f.first h).0 ∙ sym first.0)); few = f.few; one = f.one; left = f.left }) j u a)
          (λ (is : further_view ≡ u). subst (FitsView (total counted_of us) j) is (record { first = λ h. absurd (omega arith); few = λ _. (omega arith, omega arith); one = λ _. refl; left = λ z. absurd (omega arith) }))
          (at_snoc vs further_view u j e);
    }

-- a view that only remembers
pub tells : (n : Limits) (id : ℕ) (v : SeatView) → Splits (holds_of n) id v (itself v) (telling v)
tells n id v s k at =
    let vs : List SeatView = set s.views id v in let us : List SeatView = vs ++ telling v ∷ [] in
    let same : (f : SeatView → ℕ) → f (telling v) ≡ 0 → total f us ≡ total f s.views = λ f is.
    let a = same_total f s.views id v v at refl in let b = total_snoc f vs (telling v) in omega arith in
    let hands = same counted_of refl in let seats = same seats_of refl in let people = k.people in let ent = same entered refl in let made = k.made in
    record {
      wide = k.wide;
      most = k.most;
      made = omega arith;
      people = omega arith;
      closed_once = λ lock q r. same (closed_in lock q) refl ∙ k.closed_once lock q r;
      open_once = λ lock q r. same (open_in lock q) refl ∙ k.open_once lock q r;
      bounded = λ lock r. let was = k.bounded lock r in omega arith;
      each = λ j u e. subst (λ (m : ℕ). FitsView m j u) (sym hands) (⊎_elim
          (λ a. each_set (FitsView (total counted_of s.views)) s.views id v (k.each id v at) (λ i x _ b. k.each i x b) j u a)
          (λ (is : telling v ≡ u). subst (FitsView (total counted_of s.views) j) is (record { first = λ h. absurd (omega arith); few = λ l. absurd (l refl); one = λ l. absurd (l refl); left = λ _. refl }))
          (at_snoc vs (telling v) u j e));
    }

pub joins : (n : Limits) (id : ℕ) (v : SeatView) (other : ℕ) (w : SeatView) → v.seats ≢ 0 → w.seats ≢ 0 → w.inside ≡ None → Joins (holds_of n) id v other w (taking v w) spent
joins n id v other w live live' out s k at two at' =
    let b : SeatView = taking v w in let vs : List SeatView = set s.views id b in let us : List SeatView = set vs other spent in
    let was : get_elem? s.views other ≡ some w = ⊎_elim (λ x. absurd (two x.0)) (λ x. x.1) (at_set s.views id other b w at') in
    let mine = k.each id v at in let theirs = k.each other w was in
    let same : (f : SeatView → ℕ) → total f us + f w + f v ≡ total f s.views + f b + f spent = λ f.
    let x = total_set f s.views id v b at in let y = total_set f vs other w spent at' in omega arith in
    let hands = same counted_of in let seats = same seats_of in let people = k.people in let ent = same entered in let made = k.made in
    let one = mine.one live in let one' = theirs.one live' in
    let none_in : count_open w.inside ≡ 0 = ap count_open out in
    let lens : total length b.joined ≡ total length v.joined + (length w.own + total length w.joined) = total_append length v.joined (w.own ∷ w.joined) in
    let still : total counted_of us ≡ total counted_of s.views = omega arith in
    record {
      wide = k.wide;
      most = k.most;
      made = omega arith;
      people = omega arith;
      closed_once = λ lock q r. let t = same (closed_in lock q) in let was' = k.closed_once lock q r in
          let l : total (times lock q) b.joined ≡ total (times lock q) v.joined + (times lock q w.own + total (times lock q) w.joined) = total_append (times lock q) v.joined (w.own ∷ w.joined) in omega arith;
      open_once = λ lock q r. let t = same (open_in lock q) in let was' = k.open_once lock q r in let z : open_in lock q w ≡ 0 = ap (in_open lock q) out in omega arith;
      bounded = λ lock r. let was' = k.bounded lock r in omega arith;
      each = λ j u e. subst (λ (m : ℕ). FitsView m j u) (sym still) (each_set (FitsView (total counted_of s.views)) vs other spent
          (record { first = λ h. absurd (omega arith); few = λ l. absurd (l refl); one = λ l. absurd (l refl); left = λ _. refl })
          (λ i x _ a. each_set (FitsView (total counted_of s.views)) s.views id b
          (record { first = mine.first; few = λ _. ((mine.few live).0, let f = (mine.few live).1 in let g = theirs.few live' in omega arith); one = λ _. one; left = λ z. absurd (live (omega arith)) })
          (λ i' x' _ a'. k.each i' x' a') i x a) j u e);
    }

pub read_at : (l : List ℕ) (i a : ℕ) → get_elem? l i ≡ some a → get_or l i 0 ≡ a
read_at [] i a e = absurd (some-ne-none a (sym e))
read_at (x ∷ xs) zero a e = some-injective x a e
read_at (x ∷ xs) (suc i) a e = read_at xs i a e

-- the lists that the book remembers
pub book_placed : (n : Limits) (id : ℕ) (v u : SeatView) (ws : List ℕ) (xs : List (Unit {0})) → Final (Seen (holds_of n) id v) ws xs → u ≡ telling v → 0 < v.made → v.made ≡ v.seats → v.inside ≡ None
    → IsNumbered n.locks ws u.remembered
book_placed n id v u ws xs f is is_first all none_open lock inr place =
    let e = ends n f.0.words f.0.views id v f.1.0 f.1.1 is_first all none_open lock place inr in
    subst (λ (z : SeatView × List ℕ). total (times lock place) z.0.remembered ≡ one_if (ltb place (get_or z.1 lock 0 / 2))) (λ i. (sym is i, f.2 i)) e.0

-- two seats that have a lock open are one
pub one_open : OneSeatALock
one_open n ws vs lock a b v w k inr at open_v at' open_w = dite (ℕ_discrete a b) (λ e. e) (λ ne. absurd (
    let p : ℕ = open_v.0 in
    let word = word_open n ws vs a v k at lock p inr open_v.1 in
    let word' = word_open n ws vs b w k at' lock open_w.0 inr open_w.1 in
    let same : open_w.0 ≡ p = omega arith in
    let there : w.inside ≡ Some (lock, p) = open_w.1 ∙ ap (λ (q : ℕ). Some (lock, q)) same in
    let two : open_in lock p v + open_in lock p w ≤ total (open_in lock p) vs = total_two (open_in lock p) vs a b v w ne at at' in
    let one = open_counts lock p v open_v.1 in let one' = open_counts lock p w there in
    let all = k.open_once lock p inr in let most = one_if_low (get_or ws lock 0 == 2 * p + 1) in omega arith))
