-- The rows that a list of entries sums to: one more entry, two lists one after the other, and the sums over all labels.
use Rattle.std.proofs.Common.{◌≡◌, ◌≢◌, ℕ, zero, suc, ◌+◌, ◌<◌, ◌≤◌, ◌==◌, Bool, true, false, cond, min, max, List, [], ◌∷◌, ◌++◌, length, filter, get_or, set, sym, refl, ap, ◌∙◌, arith, length-append, eq-eqb, ne_eqb, add-one}
use mathlib.Core.Logic.{dite}
use native.Mathlib.Decide.{ℕ_discrete}
use Rattle.jm_base.specs.declared.types.Entry.{Entry}
use Rattle.interval_tables.specs.declared.row.Row.{Row}
use Rattle.jm_base.specs.SumTotals.{total}
use Rattle.interval_tables.specs.Rows.{failed, least_after, greatest_of, of_label, elapsed_of, tally_of, row_of, sum_of, AllLabels, no_samples, with_entry, joined, merged, rows_with, merged_rows}
use Rattle.jm_base.proofs.Totals.{total_append, total_snoc}

-- Lists

module _ {A : Type 0} where
  keep_step : (b : Bool) (x : A) (l m n : List A) → l ≡ m ++ n → cond b (x ∷ l) l ≡ cond b (x ∷ m) m ++ n
  keep_step true x l m n e = ap (λ (k : List A). x ∷ k) e
  keep_step false x l m n e = e

  keep_append : (p : A → Bool) (xs ys : List A) → filter p (xs ++ ys) ≡ filter p xs ++ filter p ys
  keep_append p [] ys = refl
  keep_append p (x ∷ xs) ys = keep_step (p x) x (filter p (xs ++ ys)) (filter p xs) (filter p ys) (keep_append p xs ys)

  nothing_more : (xs : List A) → xs ++ [] ≡ xs
  nothing_more [] = refl
  nothing_more (x ∷ xs) = ap (λ (l : List A). x ∷ l) (nothing_more xs)

  set_before : (xs : List A) (y v : A) (i : ℕ) → i < length xs → set (xs ++ y ∷ []) i v ≡ set xs i v ++ y ∷ []
  set_before [] y v i h = absurd (omega arith)
  set_before (x ∷ xs) y v zero h = refl
  set_before (x ∷ xs) y v (suc i) h = ap (λ (l : List A). x ∷ l) (set_before xs y v i (omega arith))

  set_last : (xs : List A) (y v : A) (i : ℕ) → length xs ≡ i → set (xs ++ y ∷ []) i v ≡ xs ++ v ∷ []
  set_last [] y v zero e = refl
  set_last [] y v (suc i) e = absurd (omega arith)
  set_last (x ∷ xs) y v zero e = absurd (omega arith)
  set_last (x ∷ xs) y v (suc i) e = ap (λ (l : List A). x ∷ l) (set_last xs y v i (omega arith))

  pub get_before : (xs : List A) (y d : A) (i : ℕ) → i < length xs → get_or (xs ++ y ∷ []) i d ≡ get_or xs i d
  get_before [] y d i h = absurd (omega arith)
  get_before (x ∷ xs) y d zero h = refl
  get_before (x ∷ xs) y d (suc i) h = get_before xs y d i (omega arith)

  pub get_last : (xs : List A) (y d : A) (i : ℕ) → length xs ≡ i → get_or (xs ++ y ∷ []) i d ≡ y
  get_last [] y d zero e = refl
  get_last [] y d (suc i) e = absurd (omega arith)
  get_last (x ∷ xs) y d zero e = absurd (omega arith)
  get_last (x ∷ xs) y d (suc i) e = get_last xs y d i (omega arith)

-- The counters of one label

least_more : (x : ℕ) (ys : List ℕ) (z : ℕ) (zs : List ℕ) → least_after x (ys ++ z ∷ zs) ≡ min (least_after x ys) (least_after z zs)
least_more x [] z zs = refl
least_more x (y ∷ ys) z zs = let r = least_more y ys z zs in omega arith

greatest_more : (xs ys : List ℕ) → greatest_of (xs ++ ys) ≡ max (greatest_of xs) (greatest_of ys)
greatest_more [] ys = omega arith
greatest_more (x ∷ xs) ys = let r = greatest_more xs ys in omega arith

elapsed_append : (es fs : List Entry) → elapsed_of (es ++ fs) ≡ elapsed_of es ++ elapsed_of fs
elapsed_append [] fs = refl
elapsed_append (e ∷ es) fs = ap (λ (l : List ℕ). e.elapsed ∷ l) (elapsed_append es fs)

merged_left : (a b : Row) → a.count ≡ 0 → b.count ≢ 0 → merged a b ≡ b
merged_left a b z ne = ap (λ (t : Bool). cond t a (cond (a.count == 0) b (joined a b))) (ne_eqb b.count 0 ne)
    ∙ ap (λ (t : Bool). cond t b (joined a b)) (eq-eqb a.count 0 z)

pub merged_both : (a b : Row) → a.count ≢ 0 → b.count ≢ 0 → merged a b ≡ joined a b
merged_both a b ne ne' = ap (λ (t : Bool). cond t a (cond (a.count == 0) b (joined a b))) (ne_eqb b.count 0 ne')
    ∙ ap (λ (t : Bool). cond t b (joined a b)) (ne_eqb a.count 0 ne)

-- a row that has samples, with one more
abbrev more_of : Row → Entry → Row
more_of r e = record { count = r.count + 1; errors = r.errors + failed e; total = r.total + e.elapsed; bytes = r.bytes + e.bytes; least = min r.least e.elapsed; greatest = max r.greatest e.elapsed }

with_more : (r : Row) (e : Entry) → r.count ≢ 0 → with_entry r e ≡ more_of r e
with_more r e ne = let t = ne_eqb r.count 0 ne in
    λ i. record { count = r.count + 1; errors = r.errors + failed e; total = r.total + e.elapsed; bytes = r.bytes + e.bytes; least = cond (t i) e.elapsed (min r.least e.elapsed); greatest = cond (t i) e.elapsed (max r.greatest e.elapsed) }

-- two lists of entries of one label
pub tally_append : (es fs : List Entry) → merged (tally_of es) (tally_of fs) ≡ tally_of (es ++ fs)
tally_append es [] = ap tally_of (sym (nothing_more es))
tally_append [] (f ∷ fs) = merged_left (tally_of []) (tally_of (f ∷ fs)) refl (λ z. omega arith)
tally_append (e ∷ es) (f ∷ fs) =
    let counts : length (e ∷ es) + length (f ∷ fs) ≡ length ((e ∷ es) ++ f ∷ fs) = sym (length-append (e ∷ es) (f ∷ fs)) in
    let errors = sym (total_append failed (e ∷ es) (f ∷ fs)) in
    let totals = sym (total_append (λ (x : Entry). x.elapsed) (e ∷ es) (f ∷ fs)) in
    let bytes = sym (total_append (λ (x : Entry). x.bytes) (e ∷ es) (f ∷ fs)) in
    let least = sym (ap (least_after e.elapsed) (elapsed_append es (f ∷ fs)) ∙ least_more e.elapsed (elapsed_of es) f.elapsed (elapsed_of fs)) in
    let greatest = sym (ap greatest_of (elapsed_append (e ∷ es) (f ∷ fs)) ∙ greatest_more (elapsed_of (e ∷ es)) (elapsed_of (f ∷ fs))) in
    merged_both (tally_of (e ∷ es)) (tally_of (f ∷ fs)) (λ z. omega arith) (λ z. omega arith)
    ∙ (λ i. record { count = counts i; errors = errors i; total = totals i; bytes = bytes i; least = least i; greatest = greatest i })

joined_swap : (a b : Row) → joined a b ≡ joined b a
joined_swap a b =
    let counts : a.count + b.count ≡ b.count + a.count = omega arith in
    let errors : a.errors + b.errors ≡ b.errors + a.errors = omega arith in
    let totals : a.total + b.total ≡ b.total + a.total = omega arith in
    let bytes : a.bytes + b.bytes ≡ b.bytes + a.bytes = omega arith in
    let least : min a.least b.least ≡ min b.least a.least = omega arith in
    let greatest : max a.greatest b.greatest ≡ max b.greatest a.greatest = omega arith in
    λ i. record { count = counts i; errors = errors i; total = totals i; bytes = bytes i; least = least i; greatest = greatest i }

-- in either order
tally_swap : (es fs : List Entry) → tally_of (es ++ fs) ≡ tally_of (fs ++ es)
tally_swap [] fs = ap tally_of (sym (nothing_more fs))
tally_swap (e ∷ es) [] = ap tally_of (nothing_more (e ∷ es))
tally_swap (e ∷ es) (f ∷ fs) =
    let left = merged_both (tally_of (e ∷ es)) (tally_of (f ∷ fs)) (λ z. omega arith) (λ z. omega arith) in
    let right = merged_both (tally_of (f ∷ fs)) (tally_of (e ∷ es)) (λ z. omega arith) (λ z. omega arith) in
    sym (tally_append (e ∷ es) (f ∷ fs)) ∙ left ∙ joined_swap (tally_of (e ∷ es)) (tally_of (f ∷ fs)) ∙ sym right ∙ tally_append (f ∷ fs) (e ∷ es)

-- one more entry of the label
tally_snoc : (es : List Entry) (e : Entry) → with_entry (tally_of es) e ≡ tally_of (es ++ e ∷ [])
tally_snoc [] e =
    let counts : 0 + 1 ≡ 1 = omega arith in
    let errors : 0 + failed e ≡ failed e + 0 = omega arith in
    let totals : 0 + e.elapsed ≡ e.elapsed + 0 = omega arith in
    let bytes : 0 + e.bytes ≡ e.bytes + 0 = omega arith in
    let greatest : e.elapsed ≡ max e.elapsed 0 = omega arith in
    λ i. record { count = counts i; errors = errors i; total = totals i; bytes = bytes i; least = e.elapsed; greatest = greatest i }
tally_snoc (x ∷ es) e =
    let counts : length (x ∷ es) + 1 ≡ length ((x ∷ es) ++ e ∷ []) = sym (length-append (x ∷ es) (e ∷ [])) in
    let errors = sym (total_snoc failed (x ∷ es) e) in
    let totals = sym (total_snoc (λ (y : Entry). y.elapsed) (x ∷ es) e) in
    let bytes = sym (total_snoc (λ (y : Entry). y.bytes) (x ∷ es) e) in
    let least = sym (ap (least_after x.elapsed) (elapsed_append es (e ∷ [])) ∙ least_more x.elapsed (elapsed_of es) e.elapsed []) in
    let more : greatest_of (elapsed_of ((x ∷ es) ++ e ∷ [])) ≡ max (greatest_of (elapsed_of (x ∷ es))) (greatest_of (e.elapsed ∷ [])) = ap greatest_of (elapsed_append (x ∷ es) (e ∷ [])) ∙ greatest_more (elapsed_of (x ∷ es)) (e.elapsed ∷ []) in
    let greatest : max (greatest_of (elapsed_of (x ∷ es))) e.elapsed ≡ greatest_of (elapsed_of ((x ∷ es) ++ e ∷ [])) = omega arith in
    with_more (tally_of (x ∷ es)) e (λ z. omega arith)
    ∙ (λ i. record { count = counts i; errors = errors i; total = totals i; bytes = bytes i; least = least i; greatest = greatest i })

row_here : (l : ℕ) (es : List Entry) (e : Entry) → e.label ≡ l → with_entry (row_of l es) e ≡ row_of l (es ++ e ∷ [])
row_here l es e is = tally_snoc (of_label l es) e
    ∙ ap (λ (b : Bool). tally_of (of_label l es ++ cond b (e ∷ []) [])) (sym (eq-eqb e.label l is))
    ∙ ap tally_of (sym (keep_append (λ (x : Entry). x.label == l) es (e ∷ [])))

pub row_else : (l : ℕ) (es : List Entry) (e : Entry) → e.label ≢ l → row_of l (es ++ e ∷ []) ≡ row_of l es
row_else l es e ne = ap tally_of (keep_append (λ (x : Entry). x.label == l) es (e ∷ []))
    ∙ ap (λ (b : Bool). tally_of (of_label l es ++ cond b (e ∷ []) [])) (ne_eqb e.label l ne)
    ∙ ap tally_of (nothing_more (of_label l es))

row_append : (l : ℕ) (es fs : List Entry) → merged (row_of l es) (row_of l fs) ≡ row_of l (es ++ fs)
row_append l es fs = tally_append (of_label l es) (of_label l fs) ∙ ap tally_of (sym (keep_append (λ (x : Entry). x.label == l) es fs))

row_swap : (l : ℕ) (es fs : List Entry) → row_of l (es ++ fs) ≡ row_of l (fs ++ es)
row_swap l es fs =
    ap tally_of (keep_append (λ (x : Entry). x.label == l) es fs) ∙ tally_swap (of_label l es) (of_label l fs)
    ∙ ap tally_of (sym (keep_append (λ (x : Entry). x.label == l) fs es))

-- The rows of all labels

pub length-sum_of : (labels : ℕ) (es : List Entry) → length (sum_of labels es) ≡ labels
length-sum_of zero es = refl
length-sum_of (suc n) es = length-append (sum_of n es) (row_of n es ∷ []) ∙ (let r = length-sum_of n es in omega arith)

pub sum_of_next : (n : ℕ) (es : List Entry) → sum_of (n + 1) es ≡ sum_of n es ++ row_of n es ∷ []
sum_of_next n es = ap (λ (m : ℕ). sum_of m es) (add-one n)

sum_of_else : (n : ℕ) (es : List Entry) (e : Entry) → n ≤ e.label → sum_of n (es ++ e ∷ []) ≡ sum_of n es
sum_of_else zero es e h = refl
sum_of_else (suc n) es e h = λ i. sum_of_else n es e (omega arith) i ++ row_else n es e (λ z. omega arith) i ∷ []

pub sum_of_add : (n : ℕ) (es : List Entry) (e : Entry) → e.label < n → rows_with (sum_of n es) e ≡ sum_of n (es ++ e ∷ [])
sum_of_add zero es e h = absurd (omega arith)
sum_of_add (suc n) es e h =
    let xs : List Row = sum_of n es in let y : Row = row_of n es in let len = length-sum_of n es in
    dite (ℕ_discrete e.label n)
    (λ is. ap (λ (r : Row). set (xs ++ y ∷ []) e.label (with_entry r e)) (get_last xs y no_samples e.label (len ∙ sym is))
    ∙ set_last xs y (with_entry y e) e.label (len ∙ sym is)
    ∙ (λ i. sym (sum_of_else n es e (omega arith)) i ++ row_here n es e is i ∷ []))
    (λ ne. ap (λ (r : Row). set (xs ++ y ∷ []) e.label (with_entry r e)) (get_before xs y no_samples e.label (omega arith))
    ∙ set_before xs y (with_entry (get_or xs e.label no_samples) e) e.label (omega arith)
    ∙ (λ i. sum_of_add n es e (omega arith) i ++ sym (row_else n es e ne) i ∷ []))

merged_snoc : (as' bs : List Row) (a b : Row) → length as' ≡ length bs → merged_rows (as' ++ a ∷ []) (bs ++ b ∷ []) ≡ merged_rows as' bs ++ merged a b ∷ []
merged_snoc [] [] a b e = refl
merged_snoc [] (y ∷ ys) a b e = absurd (omega arith)
merged_snoc (x ∷ xs) [] a b e = absurd (omega arith)
merged_snoc (x ∷ xs) (y ∷ ys) a b e = ap (λ (l : List Row). merged x y ∷ l) (merged_snoc xs ys a b (omega arith))

pub sum_of_append : (n : ℕ) (es fs : List Entry) → merged_rows (sum_of n es) (sum_of n fs) ≡ sum_of n (es ++ fs)
sum_of_append zero es fs = refl
sum_of_append (suc n) es fs =
    merged_snoc (sum_of n es) (sum_of n fs) (row_of n es) (row_of n fs) (length-sum_of n es ∙ sym (length-sum_of n fs))
    ∙ (λ i. sum_of_append n es fs i ++ row_append n es fs i ∷ [])

-- the order of two lists makes no difference
pub sum_of_swap : (n : ℕ) (es fs : List Entry) → sum_of n (es ++ fs) ≡ sum_of n (fs ++ es)
sum_of_swap zero es fs = refl
sum_of_swap (suc n) es fs = λ i. sum_of_swap n es fs i ++ row_swap n es fs i ∷ []

-- a counter that sums g over the entries of its label sums g over all entries where every label is in range
module _ (f : Row → ℕ) (g : Entry → ℕ) (is : (es : List Entry) → f (tally_of es) ≡ total g es) where
  none : (n : ℕ) → total f (sum_of n []) ≡ 0
  none zero = refl
  none (suc n) = let s = total_snoc f (sum_of n []) (row_of n []) in let r = none n in let e = is [] in omega arith

  kept : (b : Bool) (e : Entry) (es : List Entry) → b ≡ true → total g (cond b (e ∷ es) es) ≡ g e + total g es
  kept true e es h = refl
  kept false e es h = absurd cc

  left : (b : Bool) (e : Entry) (es : List Entry) → b ≡ false → total g (cond b (e ∷ es) es) ≡ total g es
  left true e es h = absurd cc
  left false e es h = refl

  above : (n : ℕ) (e : Entry) (es : List Entry) → n ≤ e.label → total f (sum_of n (e ∷ es)) ≡ total f (sum_of n es)
  above zero e es h = refl
  above (suc n) e es h =
      let s = total_snoc f (sum_of n (e ∷ es)) (row_of n (e ∷ es)) in let t = total_snoc f (sum_of n es) (row_of n es) in
      let a = is (of_label n (e ∷ es)) in let b = is (of_label n es) in
      let o = left (e.label == n) e (of_label n es) (ne_eqb e.label n (λ z. omega arith)) in
      let r = above n e es (omega arith) in omega arith

  below : (n : ℕ) (e : Entry) (es : List Entry) → e.label < n → total f (sum_of n (e ∷ es)) ≡ g e + total f (sum_of n es)
  below zero e es h = absurd (omega arith)
  below (suc n) e es h =
      let s = total_snoc f (sum_of n (e ∷ es)) (row_of n (e ∷ es)) in let t = total_snoc f (sum_of n es) (row_of n es) in
      let a = is (of_label n (e ∷ es)) in let b = is (of_label n es) in
      dite (ℕ_discrete e.label n)
      (λ z. let o = kept (e.label == n) e (of_label n es) (eq-eqb e.label n z) in let r = above n e es (omega arith) in omega arith)
      (λ z. let o = left (e.label == n) e (of_label n es) (ne_eqb e.label n z) in let r = below n e es (omega arith) in omega arith)

  pub over_labels : (n : ℕ) (es : List Entry) → AllLabels n es → total f (sum_of n es) ≡ total g es
  over_labels n [] h = none n
  over_labels n (e ∷ es) h = let r = over_labels n es h.1 in let b = below n e es h.0 in omega arith

ones : (es : List Entry) → length es ≡ total (λ (e : Entry). 1) es
ones [] = refl
ones (e ∷ es) = let r = ones es in omega arith

pub counts_over : (n : ℕ) (es : List Entry) → AllLabels n es → total (λ (r : Row). r.count) (sum_of n es) ≡ length es
counts_over n es h = over_labels (λ (r : Row). r.count) (λ (e : Entry). 1) ones n es h ∙ sym (ones es)

pub errors_over : (n : ℕ) (es : List Entry) → AllLabels n es → total (λ (r : Row). r.errors) (sum_of n es) ≡ total failed es
errors_over n es h = over_labels (λ (r : Row). r.errors) failed (λ es. refl) n es h

-- rows that sum to a list of entries sum to one more entry after it was counted
pub added_sum : (rows : List Row) (es : List Entry) (e : Entry) → e.label < length rows → rows ≡ sum_of (length rows) es → rows_with rows e ≡ sum_of (length rows) (es ++ e ∷ [])
added_sum rows es e low is = ap (λ (l : List Row). rows_with l e) is ∙ sum_of_add (length rows) es e low
