-- A writer that is made, one that is joined, the start and the end.
use Rattle.std.proofs.Common.{◌≡◌, ◌≢◌, ℕ, zero, suc, ◌+◌, ◌*◌, ◌<◌, ◌≤◌, ◌==◌, not, Bool, true, false, true≢false, ltb, List, [], ◌∷◌, ◌++◌, length, get_or, set, sym, refl, ap, ◌∙◌, subst, ◌⊎◌, ⊎_elim, inl, inr, arith, length-set, length-append, eq-eqb, add-zero, replicate}
use mathlib.Core.Logic.{dite}
use mathlib.Core.Option.{some, some-injective, some-ne-none}
use native.Mathlib.Decide.{ℕ_discrete}
use lib.ListN.{get_elem?}
use Rattle.std.proofs.lemmas.Bool.Decides.{nat_tests}
use Rattle.phaser_core.specs.declared.view.Numbers.{Numbers}
use Rattle.phaser_core.specs.declared.view.Stage.TheVariants.{Out}
use Rattle.phaser_core.specs.declared.view.WriterView.{WriterView}
use Rattle.phaser_core.specs.declared.view.Joined.{Joined}
use Rattle.phaser_core.specs.declared.view.ReporterStage.{ReporterStage}
use Rattle.phaser_core.specs.declared.view.ReporterView.{ReporterView}
use Rattle.phaser_core.specs.declared.view.View.{View}
use Rattle.phaser_core.specs.declared.view.View.TheVariants.{Reporter, Writer, Gone}
use Rattle.jm_base.specs.SumTotals.{one_if, total}
use Rattle.phaser_core.proofs.Halves.{Phased}
use Rattle.phaser_core.specs.Cells.{is_odd, end_at, initial, phase, rows_in, word_count}
use Rattle.phaser_core.specs.Invariant.{InsideBefore, AllKept, Fits}
use Rattle.phaser_core.specs.CoreMoves.{splitting, split_off, taking_in, joining, first_words, first_cells}
use Rattle.phaser_core.specs.Shares.{AllInRange}
use Rattle.phaser_core.specs.Views.{stage_inside, inside, busy, uses, holders, heads, writer_zero, turned, pending, current, other, left_of, further, first_reading, IsSized, made_known, AllJoined}
use Rattle.phaser_core.proofs.PhaseSteps.{same_total, each_set, is_reader}
use Rattle.jm_base.proofs.Totals.{total_set, total_snoc, total_at, total_two}
use Rattle.phaser_core.proofs.Lists.{at_set, set_else, set_here, at_longer}

at_short : (l : List View) (i : ℕ) (v : View) → get_elem? l i ≡ some v → i < length l
at_short [] i v e = absurd (some-ne-none v (sym e))
at_short (x ∷ xs) zero v e = omega arith
at_short (x ∷ xs) (suc i) v e = let r = at_short xs i v e in omega arith

no_length : (l : List Joined) → length l ≡ 0 → l ≡ []
no_length [] h = refl
no_length (x ∷ xs) h = absurd (omega arith)

-- the last of a list that is one longer
pub at_end : (l : List View) (v u : View) (j : ℕ) → get_elem? (l ++ v ∷ []) j ≡ some u → ((get_elem? l j ≡ some u) × (j < length l)) ⊎ ((v ≡ u) × (j ≡ length l))
at_end [] v u zero e = inr (some-injective v u e, refl)
at_end [] v u (suc j) e = absurd (some-ne-none u (sym e))
at_end (x ∷ xs) v u zero e = inl (e, omega arith)
at_end (x ∷ xs) v u (suc j) e = ⊎_elim (λ a. inl (a.0, omega arith)) (λ b. inr (b.0, ap suc b.1)) (at_end xs v u j e)

-- where other views have the same sums, and the reporter is as far
regroup : (n : Numbers) (ws : List ℕ) (vs us : List View) (k : Phased n ws vs) (r' : ReporterView) (made : ℕ) → r'.labels ≡ k.reader.labels → r'.interval ≡ k.reader.interval → r'.closing ≡ k.reader.closing → get_elem? us 0 ≡ some (Reporter r')
    → length us ≡ made + 1 → made ≤ n.writers → ((p : Bool) → total (inside p) us ≡ total (inside p) vs) → total uses us ≡ total uses vs → total heads us ≡ made
    → ((q : ℕ) → total (holders q) us ≡ one_if (ltb q made)) → ((id : ℕ) (v : View) → get_elem? us id ≡ some v → Fits n made id v) → Phased n ws us
regroup n ws vs us k r' made named far closing prefix ports few within used people numbers each =
    let c : current k.reader ≡ current r' = λ i. is_odd (sym far i + turned (sym closing i)) in
    record {
      wide = k.wide;
      sizes = k.sizes;
      labels = named ∙ k.labels;
      reader = r';
      prefix = prefix;
      made = made;
      ports = ports;
      few = few;
      closed = subst (λ (z : ℕ × ReporterStage). z.0 + pending z.1 ≤ 16777216) (λ i. (sym far i, sym closing i)) k.closed;
      parity = k.parity ∙ c;
      now = subst (λ (q : Bool). total (inside q) us + get_or ws (end_at q) 0 ≡ get_or ws 1 0) c (ap (λ (x : ℕ). x + get_or ws (end_at (current k.reader)) 0) (within (current k.reader)) ∙ k.now);
      behind = subst (λ (z : Bool × ReporterStage). InsideBefore z.1 (total (inside (not z.0)) us) (get_or ws (end_at (not z.0)) 0) (initial (not z.0)) (total uses us)) (λ i. (c i, sym closing i))
          (subst (λ (z : ℕ × ℕ). InsideBefore k.reader.closing z.0 (get_or ws (end_at (other k.reader)) 0) (initial (other k.reader)) z.1) (λ i. (sym (within (other k.reader)) i, sym used i)) k.behind);
      started = subst (λ (z : Bool × ℕ). get_or ws 1 0 ≤ initial z.0 + z.1) (λ i. (c i, sym used i)) k.started;
      ends = λ p. subst (λ (t : ℕ). (initial p ≤ get_or ws (end_at p) 0) × (get_or ws (end_at p) 0 ≤ initial p + t)) (sym used) (k.ends p);
      people = people;
      numbers = numbers;
      each = each;
    }

next_number : (m q : ℕ) → one_if (ltb q m) + one_if (m == q) ≡ one_if (ltb q (m + 1))
next_number m q = grind (arith, nat_tests)

-- the sums after one view changed to one with the same, and one came to the end
module _ (vs : List View) (id : ℕ) (v left new : View) (at : get_elem? vs id ≡ some v) where
  pub summed : (f : View → ℕ) → f left ≡ f v → total f (set vs id left ++ new ∷ []) ≡ total f vs + f new
  summed f is = let a = same_total f vs id v left at is in let b = total_snoc f (set vs id left) new in omega arith

kept_made : (n : Numbers) (made made' : ℕ) (js : List Joined) → total (λ (j : Joined). one_if (j.number == 0)) js ≡ 0 → AllKept n made js → AllKept n made' js
kept_made n made made' [] z h = tt
kept_made n made made' (j ∷ js) z h =
    (h.0, h.1, (λ some_made. absurd (let one : one_if (j.number == 0) ≡ 1 = ap one_if (eq-eqb j.number 0 (h.2 some_made).0) in omega arith)), h.3, kept_made n made made' js (omega arith) h.4)

kept_snoc : (n : Numbers) (made : ℕ) (js : List Joined) (j : Joined) → AllKept n made js → length j.list ≤ n.budget → AllInRange n.labels j.list → (0 < j.made → (j.number ≡ 0) × (j.made ≡ made)) → (j.number ≡ 0 → 0 < j.made) → AllKept n made (js ++ j ∷ [])
kept_snoc n made [] j h a b c d = (a, b, c, d, tt)
kept_snoc n made (x ∷ xs) j h a b c d = (h.0, h.1, h.2, h.3, kept_snoc n made xs j h.4 a b c d)

-- the reporter makes writer 0
pub split_first : (n : Numbers) (ws : List ℕ) (vs : List View) (k : Phased n ws vs) (id : ℕ) (r : ReporterView) → get_elem? vs id ≡ some (Reporter r) → r.ready ≡ false → Phased n ws (set vs id (splitting (Reporter r)) ++ writer_zero ∷ [])
split_first n ws vs k id r at fresh =
    let new : View = writer_zero in let r' : ReporterView = record r { ready = true } in let left : View = Reporter r' in
    let us : List View = set vs id left ++ new ∷ [] in
    let mine = k.each id (Reporter r) at in
    let none : k.made ≡ 0 = mine.2 fresh in
    let is = is_reader n ws vs k id r at in let prefix = mine.0 in let ports = k.ports in let sizes = k.sizes in
    let alone : (j : ℕ) (u : View) → get_elem? vs j ≡ some u → j ≡ 0 = λ j u e. let l = at_short vs j u e in omega arith in
    let people = k.people in
    let joined_none : length r.joined ≡ 0 = let h = total_at heads vs id (Reporter r) at in omega arith in
    regroup n ws vs us k r' 1 (ap (λ (q : ReporterView). q.labels) (sym is)) (ap (λ (q : ReporterView). q.interval) (sym is)) (ap (λ (q : ReporterView). q.closing) (sym is))
    (at_longer (set vs id left) (new ∷ []) 0 left (subst (λ (i : ℕ). get_elem? (set vs i left) 0 ≡ some left) (sym prefix) (set_here vs 0 left (omega arith))))
    (length-append (set vs id left) (new ∷ []) ∙ let l = length-set vs id left in omega arith)
    (omega arith)
    (λ p. summed vs id (Reporter r) left new at (inside p) refl ∙ add-zero (total (inside p) vs))
    (summed vs id (Reporter r) left new at uses refl ∙ add-zero (total uses vs))
    (let t = summed vs id (Reporter r) left new at heads refl in omega arith)
    (λ q. let t = summed vs id (Reporter r) left new at (holders q) refl in let o = k.numbers q in let m = next_number 0 q in
    let zero_before : one_if (ltb q k.made) ≡ one_if (ltb q 0) = ap (λ (m : ℕ). one_if (ltb q m)) none in omega arith)
    (λ j u e. ⊎_elim
    (λ (a : (get_elem? (set vs id left) j ≡ some u) × (j < length (set vs id left))). each_set (Fits n 1) vs id left (prefix, subst (AllKept n 1) (sym (no_length r.joined joined_none)) tt, λ f. absurd (true≢false f)) (λ i x ne b. absurd (ne (alone i x b ∙ sym prefix))) j u a.0)
    (λ (b : (new ≡ u) × (j ≡ length (set vs id left))). let l = length-set vs id left in let place = b.1 in subst (Fits n 1 j) b.0 (omega arith, omega arith, tt, (λ _. (refl, refl)), λ _. omega arith))
    (at_end (set vs id left) new u j e))

one_if_le : (b : Bool) → one_if b ≤ 1
one_if_le true = omega arith
one_if_le false = omega arith

fits_grown : (n : Numbers) (made j : ℕ) (u : View) → 0 < made → Fits n made j u → holders 0 u ≡ 0 → Fits n (made + 1) j u
fits_grown n made j (Reporter r) some_made f z = (f.0, kept_made n made (made + 1) r.joined z f.1, λ e. absurd (let none = f.2 e in omega arith))
fits_grown n made j (Writer x) some_made f z = (f.0, f.1, f.2, (λ h. absurd (let one : one_if (x.number == 0) ≡ 1 = ap one_if (eq-eqb x.number 0 (f.3 h).0) in omega arith)), f.4)
fits_grown n made j Gone some_made f z = tt

-- writer 0 makes one more
pub split_more : (n : Numbers) (ws : List ℕ) (vs : List View) (k : Phased n ws vs) (id : ℕ) (w : WriterView) → get_elem? vs id ≡ some (Writer w) → 0 < w.made → w.made < n.writers
    → Phased n ws (set vs id (splitting (Writer w)) ++ split_off (Writer w) ∷ [])
split_more n ws vs k id w at some_made room =
    let new : View = further w.made in let left : View = splitting (Writer w) in
    let vs' : List View = set vs id left in let us : List View = vs' ++ new ∷ [] in
    let mine = k.each id (Writer w) at in let first = mine.3 some_made in
    let place : id ≢ 0 = λ e. let p = mine.0 in omega arith in
    let people = k.people in
    let number : one_if (w.number == 0) ≡ 1 = ap one_if (eq-eqb w.number 0 first.0) in
    let all_zero = k.numbers 0 in
    let one_zero : one_if (ltb 0 k.made) ≤ 1 = one_if_le (ltb 0 k.made) in
    let budget = mine.1 in
    regroup n ws vs us k k.reader (k.made + 1) refl refl refl
    (at_longer vs' (new ∷ []) 0 (Reporter k.reader) (set_else vs id 0 left (λ e. place (sym e)) ∙ k.prefix))
    (length-append vs' (new ∷ []) ∙ let l = length-set vs id left in let p = k.ports in omega arith)
    (omega arith)
    (λ p. summed vs id (Writer w) left new at (inside p) refl ∙ add-zero (total (inside p) vs))
    (summed vs id (Writer w) left new at uses refl ∙ add-zero (total uses vs))
    (let t = summed vs id (Writer w) left new at heads refl in omega arith)
    (λ q. let t = summed vs id (Writer w) left new at (holders q) refl in let o = k.numbers q in let m = next_number k.made q in
    let new_is : one_if (w.made == q) ≡ one_if (k.made == q) = ap (λ (m : ℕ). one_if (m == q)) first.1 in omega arith)
    (λ j u e. ⊎_elim
    (λ (a : (get_elem? vs' j ≡ some u) × (j < length vs')). each_set (Fits n (k.made + 1)) vs id left (mine.0, mine.1, mine.2, (λ _. (first.0, ap (λ (m : ℕ). m + 1) first.1)), λ _. omega arith)
    (λ i x ne b. fits_grown n k.made i x (omega arith) (k.each i x b) (let two = total_two (holders 0) vs i id x (Writer w) ne b at in omega arith)) j u a.0)
    (λ (b : (new ≡ u) × (j ≡ length vs')). let l = length-set vs id left in let at_last = b.1 in let p = k.ports in
    subst (Fits n (k.made + 1) j) b.0 (omega arith, omega arith, tt, (λ h. absurd (omega arith)), λ z. absurd (omega arith)))
    (at_end vs' new u j e))

-- the reporter takes in a writer that is out
pub join_phases : (n : Numbers) (ws : List ℕ) (vs : List View) (k : Phased n ws vs) (id : ℕ) (r : ReporterView) (port : ℕ) (w : WriterView) → get_elem? vs id ≡ some (Reporter r) → (port ≡ id → ⊥)
    → get_elem? (set vs id (joining (Reporter r) (Writer w))) port ≡ some (Writer w) → w.stage ≡ Out → Phased n ws (set (set vs id (joining (Reporter r) (Writer w))) port Gone)
join_phases n ws vs k id r port w at two at' out =
    let r' : ReporterView = taking_in r w in let both : View = Reporter r' in let vs' : List View = set vs id both in let us : List View = set vs' port Gone in
    let was : get_elem? vs port ≡ some (Writer w) = ⊎_elim (λ x. absurd (two x.0)) (λ x. x.1) (at_set vs id port both (Writer w) at') in
    let mine = k.each id (Reporter r) at in let theirs = k.each port (Writer w) was in
    let is = is_reader n ws vs k id r at in let prefix = mine.0 in let ports = k.ports in
    let sums : (f : View → ℕ) → total f us + f (Writer w) + f (Reporter r) ≡ total f vs + f both + f Gone = λ f.
    let x = total_set f vs id (Reporter r) both at in let y = total_set f vs' port (Writer w) Gone at' in omega arith in
    let free : busy w.stage ≡ 0 = ap busy out in
    let l1 = length-set vs id both in let l2 = length-set vs' port Gone in
    regroup n ws vs us k r' k.made (ap (λ (q : ReporterView). q.labels) (sym is)) (ap (λ (q : ReporterView). q.interval) (sym is)) (ap (λ (q : ReporterView). q.closing) (sym is))
    (set_else vs' port 0 Gone (λ e. two (sym e ∙ sym prefix)) ∙ subst (λ (i : ℕ). get_elem? (set vs i both) 0 ≡ some both) (sym prefix) (set_here vs 0 both (omega arith)))
    (omega arith)
    k.few
    (λ p. let s = sums (inside p) in let z : stage_inside p w.stage ≡ 0 = ap (stage_inside p) out in omega arith)
    (let s = sums uses in let t = total_snoc (λ (j : Joined). length j.list) r.joined (left_of w) in omega arith)
    (let s = sums heads in let t = length-append r.joined (left_of w ∷ []) in let p = k.people in omega arith)
    (λ q. let s = sums (holders q) in let t = total_snoc (λ (j : Joined). one_if (j.number == q)) r.joined (left_of w) in let o = k.numbers q in omega arith)
    (each_set (Fits n k.made) vs' port Gone tt (λ j u ne e. each_set (Fits n k.made) vs id both (prefix, kept_snoc n k.made r.joined (left_of w) mine.1 (let b = theirs.1 in omega arith) theirs.2 theirs.3 theirs.4, mine.2) (λ i x _ b. k.each i x b) j u e))

-- the reporter alone
pub zero_at : (m i : ℕ) → get_or {A = ℕ} (replicate m 0) i 0 ≡ 0
zero_at zero i = refl
zero_at (suc m) zero = refl
zero_at (suc m) (suc i) = zero_at m i

pub at_one : (F : ℕ → View → Type 0) (v : View) → F 0 v → (j : ℕ) (u : View) → get_elem? (v ∷ []) j ≡ some u → F j u
at_one F v h zero u e = subst (F 0) (some-injective v u e) h
at_one F v h (suc j) u e = absurd (some-ne-none u (sym e))

first_end : (n : Numbers) (p : Bool) → get_or (first_words n.labels) (end_at p) 0 ≡ initial p
first_end n true = refl
first_end n false = refl

ltb_zero : (q : ℕ) → ltb q 0 ≡ false
ltb_zero q = grind (arith, nat_tests)

pub cells_long : (l : ℕ) → length (first_cells l) ≡ 6 * l
cells_long zero = refl
cells_long (suc l) = let r = cells_long l in omega arith

pub first_wide : (n : Numbers) → length (first_words n.labels) ≡ word_count n.labels
first_wide n = let a = length-append (first_cells (rows_in n.labels)) (first_cells (rows_in n.labels)) in let b = cells_long (rows_in n.labels) in omega arith

pub opens : (n : Numbers) → IsSized n → Phased n (first_words n.labels) (Reporter (first_reading n.labels) ∷ [])
opens n s =
    let start : get_or (first_words n.labels) 1 0 ≡ 0 = refl in
    let low = first_end n false in
    record {
      wide = first_wide n;
      sizes = s;
      reader = first_reading n.labels;
      labels = refl;
      prefix = refl;
      made = 0;
      ports = refl;
      few = omega arith;
      closed = omega arith;
      parity = ap phase start;
      now = omega arith;
      behind = refl;
      started = omega arith;
      ends = λ p. let e = first_end n p in (omega arith, omega arith);
      people = refl;
      numbers = λ q. sym (ap one_if (ltb_zero q));
      each = at_one (Fits n 0) (Reporter (first_reading n.labels)) (refl, tt, λ _. refl);
    }

none_made : (n : Numbers) (made : ℕ) (js : List Joined) → AllKept n made js → total (λ (j : Joined). one_if (j.number == 0)) js ≡ 0 → made_known js ≡ 0
none_made n made [] h z = refl
none_made n made (j ∷ js) h z =
    let r = none_made n made js h.4 (omega arith) in
    let here : j.made ≡ 0 = dite (ℕ_discrete j.made 0) (λ e. e) (λ ne. absurd (let one : one_if (j.number == 0) ≡ 1 = ap one_if (eq-eqb j.number 0 (h.2 (omega arith)).0) in omega arith)) in omega arith

made_one : (n : Numbers) (made : ℕ) (js : List Joined) → AllKept n made js → total (λ (j : Joined). one_if (j.number == 0)) js ≤ 1 → 0 < made_known js → made_known js ≡ made
made_one n made [] h z p = absurd (omega arith)
made_one n made (j ∷ js) h z p = dite (ℕ_discrete j.made 0)
    (λ e. let r = made_one n made js h.4 (omega arith) (omega arith) in omega arith)
    (λ ne. let f = h.2 (omega arith) in let one : one_if (j.number == 0) ≡ 1 = ap one_if (eq-eqb j.number 0 f.0) in let is = f.1 in let r = none_made n made js h.4 (omega arith) in omega arith)

no_head : (n : Numbers) (made j : ℕ) (v : View) → Fits n made j v → j ≢ 0 → heads v ≡ 0 → v ≡ Gone
no_head n made j (Reporter r) f ne z = absurd (ne f.0)
no_head n made j (Writer w) f ne z = absurd (omega arith)
no_head n made j Gone f ne z = refl

-- where the reporter has taken in every writer, there is no other view
pub all_gone : (n : Numbers) (ws : List ℕ) (vs : List View) (k : Phased n ws vs) (id : ℕ) (r : ReporterView) → get_elem? vs id ≡ some (Reporter r) → AllJoined r
    → (j : ℕ) (v : View) → j ≢ 0 → get_elem? vs j ≡ some v → v ≡ Gone
all_gone n ws vs k id r at all j v ne e =
    let mine = k.each id (Reporter r) at in let zero = mine.0 in
    let some_zero = total_at (holders 0) vs id (Reporter r) at in let numbers = k.numbers 0 in let low = one_if_le (ltb 0 k.made) in
    let known : made_known r.joined ≡ k.made = made_one n k.made r.joined mine.1 (omega arith) all.0 in
    let people = k.people in let len = all.1 in
    let two = total_two heads vs id j (Reporter r) v (λ h. ne (sym h ∙ zero)) at e in
    no_head n k.made j v (k.each j v e) ne (omega arith)
