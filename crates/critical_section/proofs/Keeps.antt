-- Each step at a lock keeps the rule.
use Rattle.std.proofs.Common.{◌≡◌, ◌≢◌, ℕ, ◌+◌, ◌*◌, ◌/◌, ◌<◌, ◌≤◌, ◌==◌, ◌&&◌, Bool, true, false, ltb, List, [], ◌∷◌, ◌++◌, length, get_or, set, sym, refl, ap, ◌∙◌, subst, ⊎_elim, arith, Some, None, length-set, get_or-set_same, get_or-set_other, length-append, eq-eqb, ne_eqb}
use mathlib.Core.Logic.{dite}
use mathlib.Core.Option.{some}
use native.Mathlib.Decide.{ℕ_discrete}
use lib.ListN.{get_elem?}
use Rattle.critical_section.specs.declared.rule.SeatView.{SeatView}
use Rattle.critical_section.specs.declared.rule.Limits.{Limits}
use Rattle.jm_base.specs.SumTotals.{total, one_if}
use Rattle.critical_section.specs.Book.{times, is_at, in_open, count_open, closed_list, closed_in, open_in, entered, seats_of, opened, closed, tried, counted_of, FitsView, SectionInvariant}
use Rattle.critical_section.specs.declared.rule.TheConstants.{MOST_SECTIONS}
use Rattle.std.proofs.lemmas.List.{set-get_or}
use Rattle.jm_base.proofs.Totals.{total_set, total_snoc, total_at, total_le, total_times}
use Rattle.std.proofs.lemmas.Bool.Decides.{nat_tests}
use Rattle.atomic_table.proofs.Lists.{at_set}

-- where one view changes and a sum's part of it stays, the sum stays
pub same_total : (f : SeatView → ℕ) (l : List SeatView) (i : ℕ) (v w : SeatView) → get_elem? l i ≡ some v → f w ≡ f v → total f (set l i w) ≡ total f l
same_total f l i v w at is = let r = total_set f l i v w at in omega arith

pub each_set : (F : ℕ → SeatView → Type 0) (views : List SeatView) (id : ℕ) (w : SeatView) → F id w → ((j : ℕ) (u : SeatView) → j ≢ id → get_elem? views j ≡ some u → F j u)
    → (j : ℕ) (u : SeatView) → get_elem? (set views id w) j ≡ some u → F j u
each_set F views id w mine others j u e = ⊎_elim (λ (x : (j ≡ id) × (w ≡ u)). subst (λ (y : ℕ × SeatView). F y.0 y.1) (λ i. (sym x.0 i, x.1 i)) mine)
    (λ (x : (j ≢ id) × (get_elem? views j ≡ some u)). others j u x.0 x.1) (at_set views id j w u e)

-- a word that was written, and another
word_here : (ws : List ℕ) (i n : ℕ) → i < length ws → get_or (set ws i n) i 0 ≡ n
word_here ws i n h = get_or-set_same ws i n 0 h

-- what a lock's word is after a write, by whether it is the one that was written
by_lock : (ws : List ℕ) (lock n other : ℕ) (F : ℕ → ℕ → Type 0) → lock < length ws → F lock n → (other ≢ lock → F other (get_or ws other 0)) → F other (get_or (set ws lock n) other 0)
by_lock ws lock n other F inr here there = dite (ℕ_discrete other lock)
    (λ e. subst (λ (k : ℕ). F k (get_or (set ws lock n) k 0)) (sym e) (subst (F lock) (sym (word_here ws lock n inr)) here))
    (λ ne. subst (F other) (sym (get_or-set_other ws lock other n 0 ne)) (there ne))

pub one_yes : (a b : ℕ) → a ≡ b → one_if (a == b) ≡ 1
one_yes a b e = ap one_if (eq-eqb a b e)

pub one_no : (a b : ℕ) → a ≢ b → one_if (a == b) ≡ 0
one_no a b ne = ap one_if (ne_eqb a b ne)

at_here : (lock p q : ℕ) → one_if (is_at lock q (lock, p)) ≡ one_if (p == q)
at_here lock p q = ap (λ (b : Bool). one_if (b && (p == q))) (eq-eqb lock lock refl)

at_else : (other lock p q : ℕ) → other ≢ lock → one_if (is_at other q (lock, p)) ≡ 0
at_else other lock p q ne = ap (λ (b : Bool). one_if (b && (p == q))) (ne_eqb lock other (λ e. ne (sym e)))

-- p is q where twice p and one is twice q and one
odd_same : (p q : ℕ) → one_if (p == q) ≡ one_if (2 * p + 1 == 2 * q + 1)
odd_same p q = dite (ℕ_discrete p q) (λ e. one_yes p q e ∙ sym (one_yes (2 * p + 1) (2 * q + 1) (omega arith))) (λ ne. one_no p q ne ∙ sym (one_no (2 * p + 1) (2 * q + 1) (λ e. ne (omega arith))))

odd_is : (a b : ℕ) → 1 ≤ one_if (a == b) → a ≡ b
odd_is a b h = dite (ℕ_discrete a b) (λ e. e) (λ ne. absurd (let z = one_no a b ne in omega arith))

pub one_if_low : (b : Bool) → one_if b ≤ 1
one_if_low true = omega arith
one_if_low false = omega arith

-- a view that has a section open counts once for it
pub open_counts : (lock p : ℕ) (v : SeatView) → v.inside ≡ Some (lock, p) → open_in lock p v ≡ 1
open_counts lock p v is = ap (in_open lock p) is ∙ at_here lock p p ∙ one_yes p p refl

-- the places below half of a word that goes from 2 p + 1 to 2 p + 2
next_place : (p q : ℕ) → one_if (ltb q ((2 * p + 1) / 2)) + one_if (p == q) ≡ one_if (ltb q ((2 * p + 2) / 2))
next_place p q = grind (arith, nat_tests)

module _ (n : Limits) (ws : List ℕ) (vs : List SeatView) (id : ℕ) (v : SeatView) (k : SectionInvariant n ws vs) (at : get_elem? vs id ≡ some v) where
  used : length v.own + count_open v.inside ≤ MOST_SECTIONS
  used = dite (ℕ_discrete v.seats 0) (λ z. subst (λ (u : SeatView). length u.own + count_open u.inside ≤ MOST_SECTIONS) (sym ((k.each id v at).left z)) (omega arith)) (λ l. ((k.each id v at).few l).0)

  -- what all have entered is bounded
  pub fits : total entered vs ≤ MOST_SECTIONS * 65
  fits =
      let per : (i : ℕ) (u : SeatView) → get_elem? vs i ≡ some u → entered u ≤ MOST_SECTIONS * u.seats = λ i u e. dite (ℕ_discrete u.seats 0)
      (λ z. subst (λ (x : SeatView). entered x ≤ MOST_SECTIONS * x.seats) (sym ((k.each i u e).left z)) (omega arith))
      (λ l. let f = (k.each i u e).few l in omega arith) in
      let all : total entered vs ≤ total (λ u. MOST_SECTIONS * u.seats) vs = total_le entered (λ u. MOST_SECTIONS * u.seats) vs per in
      let scaled : total (λ u. MOST_SECTIONS * u.seats) vs ≡ MOST_SECTIONS * total seats_of vs = total_times MOST_SECTIONS seats_of vs in
      let people = k.people in let made = k.made in let most = k.most in omega arith

  module _ (w : SeatView) (same : w.counted ≡ v.counted) (same' : w.seats ≡ v.seats) where
    hands : total counted_of (set vs id w) ≡ total counted_of vs
    hands = same_total counted_of vs id v w at same

    seated : total seats_of (set vs id w) ≡ total counted_of (set vs id w)
    seated = same_total seats_of vs id v w at same' ∙ k.people ∙ sym hands

  pub enters_keep : (words : List (ℕ × ℕ)) (lock p : ℕ) → lock < n.locks → v.inside ≡ None → length v.own < MOST_SECTIONS → get_or ws lock 0 ≡ 2 * p → v.seats ≢ 0
      → SectionInvariant n (set ws lock (2 * p + 1)) (set vs id (opened (tried v words) (lock, p)))
  enters_keep words lock p inr none few word live =
      let w : SeatView = opened (tried v words) (lock, p) in
      let wide = k.wide in
      let long = hands w refl refl in
      let made = k.made in
      let more : total entered (set vs id w) + entered v ≡ total entered vs + entered w = total_set entered vs id v w at in
      let out : count_open v.inside ≡ 0 = ap count_open none in
      let mine = k.each id v at in
      record {
        wide = length-set ws lock (2 * p + 1) ∙ k.wide;
        most = k.most;
        made = omega arith;
        people = seated w refl refl;
        closed_once = λ other q r. by_lock ws lock (2 * p + 1) other (λ o x. o < n.locks → total (closed_in o q) (set vs id w) ≡ one_if (ltb q (x / 2))) (omega arith)
            (λ _. same_total (closed_in lock q) vs id v w at refl ∙ k.closed_once lock q inr ∙ ap (λ (h : ℕ). one_if (ltb q h)) (omega arith))
            (λ ne r'. same_total (closed_in other q) vs id v w at refl ∙ k.closed_once other q r') r;
        open_once = λ other q r. by_lock ws lock (2 * p + 1) other (λ o x. o < n.locks → total (open_in o q) (set vs id w) ≡ one_if (x == 2 * q + 1)) (omega arith)
            (λ _. let sum : total (open_in lock q) (set vs id w) + open_in lock q v ≡ total (open_in lock q) vs + open_in lock q w = total_set (open_in lock q) vs id v w at in
            let zero_now : open_in lock q v ≡ 0 = ap (in_open lock q) none in
            let was : total (open_in lock q) vs ≡ 0 = k.open_once lock q inr ∙ one_no (get_or ws lock 0) (2 * q + 1) (λ e. omega arith) in
            let is : open_in lock q w ≡ one_if (2 * p + 1 == 2 * q + 1) = at_here lock p q ∙ odd_same p q in
            omega arith)
            (λ ne r'. let sum : total (open_in other q) (set vs id w) + open_in other q v ≡ total (open_in other q) vs + open_in other q w = total_set (open_in other q) vs id v w at in
            let zero_now : open_in other q v ≡ 0 = ap (in_open other q) none in
            let is : open_in other q w ≡ 0 = at_else other lock p q ne in
            let was = k.open_once other q r' in omega arith) r;
        bounded = λ other r. by_lock ws lock (2 * p + 1) other (λ o x. o < n.locks → x ≤ 2 * total entered (set vs id w)) (omega arith)
            (λ _. let was = k.bounded lock inr in omega arith)
            (λ ne r'. let was = k.bounded other r' in omega arith) r;
        each = λ j u e. subst (λ (m : ℕ). FitsView m j u) (sym long) (each_set (FitsView (total counted_of vs)) vs id w
            (record { first = mine.first; few = λ l. (omega arith, (mine.few l).1); one = mine.one; left = λ z. absurd (live z) })
            (λ i x _ a. k.each i x a) j u e);
      }

  -- a try that leaves the word as it was
  pub tries_keep : (words : List (ℕ × ℕ)) (lock : ℕ) → v.seats ≢ 0 → SectionInvariant n (set ws lock (get_or ws lock 0)) (set vs id (tried v words))
  tries_keep words lock live =
      let w : SeatView = tried v words in
      let same : (f : SeatView → ℕ) → f w ≡ f v → total f (set vs id w) ≡ total f vs = λ f is. same_total f vs id v w at is in
      let long = same counted_of refl in let mine = k.each id v at in
      subst (λ (x : List ℕ). SectionInvariant n x (set vs id w)) (sym (set-get_or ws lock 0)) (record {
        wide = k.wide;
        most = k.most;
        made = subst (λ (m : ℕ). m ≤ n.seats) (sym long) k.made;
        people = same seats_of refl ∙ k.people ∙ sym long;
        closed_once = λ other q r. same (closed_in other q) refl ∙ k.closed_once other q r;
        open_once = λ other q r. same (open_in other q) refl ∙ k.open_once other q r;
        bounded = λ other r. subst (λ (m : ℕ). get_or ws other 0 ≤ 2 * m) (sym (same entered refl)) (k.bounded other r);
        each = λ j u e. subst (λ (m : ℕ). FitsView m j u) (sym long) (each_set (FitsView (total counted_of vs)) vs id w
            (record { first = mine.first; few = mine.few; one = mine.one; left = λ z. absurd (live z) })
            (λ i x _ a. k.each i x a) j u e);
      })

  -- the word of a lock that a seat has open
  pub word_open : (lock p : ℕ) → lock < n.locks → v.inside ≡ Some (lock, p) → get_or ws lock 0 ≡ 2 * p + 1
  word_open lock p inr is =
      let one = open_counts lock p v is in
      let some_have : open_in lock p v ≤ total (open_in lock p) vs = total_at (open_in lock p) vs id v at in
      let all = k.open_once lock p inr in odd_is (get_or ws lock 0) (2 * p + 1) (omega arith)

  pub leaves_keep : (lock p : ℕ) → lock < n.locks → v.inside ≡ Some (lock, p) → v.seats ≢ 0
      → SectionInvariant n (set ws lock (2 * p + 2)) (set vs id (closed v))
  leaves_keep lock p inr is live =
      let w : SeatView = closed v in
      let own : w.own ≡ v.own ++ (lock, p) ∷ [] = ap (λ o. closed_list v.own o) is in
      let word = word_open lock p inr is in
      let wide = k.wide in
      let long = hands w refl refl in
      let made = k.made in
      let more : total entered (set vs id w) + entered v ≡ total entered vs + entered w = total_set entered vs id v w at in
      let out : count_open v.inside ≡ 1 = ap count_open is in
      let len : length w.own ≡ length v.own + 1 = ap length own ∙ length-append v.own ((lock, p) ∷ []) in
      let mine = k.each id v at in
      let one_more_of : (other q : ℕ) → closed_in other q w ≡ closed_in other q v + one_if (is_at other q (lock, p)) = λ other q.
      let t : times other q w.own ≡ times other q v.own + one_if (is_at other q (lock, p)) = ap (times other q) own ∙ total_snoc (λ x. one_if (is_at other q x)) v.own (lock, p) in omega arith in
      record {
        wide = length-set ws lock (2 * p + 2) ∙ k.wide;
        most = k.most;
        made = omega arith;
        people = seated w refl refl;
        closed_once = λ other q r. by_lock ws lock (2 * p + 2) other (λ o x. o < n.locks → total (closed_in o q) (set vs id w) ≡ one_if (ltb q (x / 2))) (omega arith)
            (λ _. let sum : total (closed_in lock q) (set vs id w) + closed_in lock q v ≡ total (closed_in lock q) vs + closed_in lock q w = total_set (closed_in lock q) vs id v w at in
            let t = one_more_of lock q in let h = at_here lock p q in
            let was : total (closed_in lock q) vs ≡ one_if (ltb q ((2 * p + 1) / 2)) = k.closed_once lock q inr ∙ ap (λ (x : ℕ). one_if (ltb q (x / 2))) word in
            let next = next_place p q in omega arith)
            (λ ne r'. let sum : total (closed_in other q) (set vs id w) + closed_in other q v ≡ total (closed_in other q) vs + closed_in other q w = total_set (closed_in other q) vs id v w at in
            let t = one_more_of other q in let h = at_else other lock p q ne in let was = k.closed_once other q r' in omega arith) r;
        open_once = λ other q r. by_lock ws lock (2 * p + 2) other (λ o x. o < n.locks → total (open_in o q) (set vs id w) ≡ one_if (x == 2 * q + 1)) (omega arith)
            (λ _. let sum : total (open_in lock q) (set vs id w) + open_in lock q v ≡ total (open_in lock q) vs + open_in lock q w = total_set (open_in lock q) vs id v w at in
            let mine_now : open_in lock q v ≡ one_if (2 * p + 1 == 2 * q + 1) = ap (in_open lock q) is ∙ at_here lock p q ∙ odd_same p q in
            let was : total (open_in lock q) vs ≡ one_if (2 * p + 1 == 2 * q + 1) = k.open_once lock q inr ∙ ap (λ (x : ℕ). one_if (x == 2 * q + 1)) word in
            let after = one_no (2 * p + 2) (2 * q + 1) (λ e. omega arith) in
            omega arith)
            (λ ne r'. let sum : total (open_in other q) (set vs id w) + open_in other q v ≡ total (open_in other q) vs + open_in other q w = total_set (open_in other q) vs id v w at in
            let mine_now : open_in other q v ≡ 0 = ap (in_open other q) is ∙ at_else other lock p q ne in
            let was = k.open_once other q r' in omega arith) r;
        bounded = λ other r. by_lock ws lock (2 * p + 2) other (λ o x. o < n.locks → x ≤ 2 * total entered (set vs id w)) (omega arith)
            (λ _. let was = k.bounded lock inr in omega arith)
            (λ ne r'. let was = k.bounded other r' in omega arith) r;
        each = λ j u e. subst (λ (m : ℕ). FitsView m j u) (sym long) (each_set (FitsView (total counted_of vs)) vs id w
            (record { first = mine.first; few = λ l. (let f = (mine.few l).0 in omega arith, (mine.few l).1); one = mine.one; left = λ z. absurd (live z) })
            (λ i x _ a. k.each i x a) j u e);
      }
