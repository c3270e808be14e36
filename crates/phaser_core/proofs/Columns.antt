-- The six columns of a label make its row, and those of all labels the rows that entries sum to.
use Rattle.std.proofs.Common.{◌≡◌, ℕ, zero, suc, ◌+◌, ◌*◌, ◌<◌, ◌≤◌, ◌==◌, min, Bool, true, false, cond, List, [], ◌∷◌, ◌++◌, length, sym, refl, ap, ◌∙◌, arith, eq-eqb, ne_eqb}
use Rattle.jm_base.specs.declared.types.Entry.{Entry}
use Rattle.jm_base.specs.SumTotals.{total}
use Rattle.interval_tables.specs.Rows.{failed, least_after, greatest_of, of_label, elapsed_of, tally_of, row_of, sum_of, no_samples, row_cells, row_from}
use Rattle.interval_tables.proofs.Bounds.{AllSmall as AllSmallEntries}
use Rattle.phaser_core.specs.Cells.{combine, vacant, pick, part, column_at, rows_from}
use Rattle.phaser_core.proofs.Folds.{combine_sum, vacant_sum, gather_sum}
use Rattle.phaser_core.proofs.CellSteps.{part_low, pick_low, rows_same}

kept_total : (b : Bool) (g : Entry → ℕ) (e : Entry) (own : List Entry) (r : ℕ) → r ≡ total g own → pick b (g e) 0 + r ≡ total g (cond b (e ∷ own) own)
kept_total true g e own r is = ap (λ (z : ℕ). g e + z) is
kept_total false g e own r is = omega arith

label_total : (g : Entry → ℕ) (l : ℕ) (es : List Entry) → total (λ (e : Entry). pick (e.label == l) (g e) 0) es ≡ total g (of_label l es)
label_total g l [] = refl
label_total g l (e ∷ es) = kept_total (e.label == l) g e (of_label l es) (total (λ (x : Entry). pick (x.label == l) (g x) 0) es) (label_total g l es)

ones : (es : List Entry) → total (λ (e : Entry). 1) es ≡ length es
ones [] = refl
ones (e ∷ es) = let r = ones es in omega arith

counts_at : (l : ℕ) (es : List Entry) → column_at 0 l es ≡ length (of_label l es)
counts_at l es = gather_sum 0 (λ (e : Entry). pick (e.label == l) 1 0) es (omega arith) ∙ label_total (λ (e : Entry). 1) l es ∙ ones (of_label l es)

errors_at : (l : ℕ) (es : List Entry) → column_at 1 l es ≡ total failed (of_label l es)
errors_at l es = gather_sum 1 (λ (e : Entry). pick (e.label == l) (failed e) 0) es (omega arith) ∙ label_total failed l es

totals_at : (l : ℕ) (es : List Entry) → column_at 2 l es ≡ total (λ (e : Entry). e.elapsed) (of_label l es)
totals_at l es = gather_sum 2 (λ (e : Entry). pick (e.label == l) e.elapsed 0) es (omega arith) ∙ label_total (λ (e : Entry). e.elapsed) l es

bytes_at : (l : ℕ) (es : List Entry) → column_at 3 l es ≡ total (λ (e : Entry). e.bytes) (of_label l es)
bytes_at l es = gather_sum 3 (λ (e : Entry). pick (e.label == l) e.bytes 0) es (omega arith) ∙ label_total (λ (e : Entry). e.bytes) l es

-- the least of elapsed times, where the cell's initial value stands for none
abbrev least_or : List ℕ → ℕ
least_or [] = 18446744073709551615
least_or (x ∷ xs) = least_after x xs

least_low : (x : ℕ) (xs : List ℕ) → least_after x xs ≤ x
least_low x [] = omega arith
least_low x (y ∷ ys) = let r = least_low y ys in omega arith

kept_least : (b : Bool) (e : Entry) (own : List Entry) (r : ℕ) → e.elapsed < 4294967296 → AllSmallEntries own → r ≡ least_or (elapsed_of own) → min (pick b e.elapsed 18446744073709551615) r ≡ least_or (elapsed_of (cond b (e ∷ own) own))
kept_least true e [] r low own is = omega arith
kept_least true e (x ∷ xs) r low own is = ap (λ (z : ℕ). min e.elapsed z) is
kept_least false e [] r low own is = omega arith
kept_least false e (x ∷ xs) r low own is = let o = own.0 in let m = least_low x.elapsed (elapsed_of xs) in omega arith

kept_own : (b : Bool) (e : Entry) (own : List Entry) → e.elapsed < 4294967296 → e.bytes < 4294967296 → AllSmallEntries own → AllSmallEntries (cond b (e ∷ own) own)
kept_own true e own a b h = (a, b, h)
kept_own false e own a b h = h

own_small : (l : ℕ) (es : List Entry) → AllSmallEntries es → AllSmallEntries (of_label l es)
own_small l [] h = tt
own_small l (e ∷ es) h = kept_own (e.label == l) e (of_label l es) h.0 h.1 (own_small l es h.2)

least_at : (l : ℕ) (es : List Entry) → AllSmallEntries es → column_at 4 l es ≡ least_or (elapsed_of (of_label l es))
least_at l [] h = refl
least_at l (e ∷ es) h = kept_least (e.label == l) e (of_label l es) (column_at 4 l es) h.0 (own_small l es h.2) (least_at l es h.2)

kept_greatest : (b : Bool) (e : Entry) (own : List Entry) (r : ℕ) → r ≡ greatest_of (elapsed_of own) → combine 5 (pick b e.elapsed 0) r ≡ greatest_of (elapsed_of (cond b (e ∷ own) own))
kept_greatest true e own r is = ap (λ (z : ℕ). combine 5 e.elapsed z) is
kept_greatest false e own r is = omega arith

greatest_at : (l : ℕ) (es : List Entry) → column_at 5 l es ≡ greatest_of (elapsed_of (of_label l es))
greatest_at l [] = refl
greatest_at l (e ∷ es) = kept_greatest (e.label == l) e (of_label l es) (column_at 5 l es) (greatest_at l es)

row_is : (f : ℕ → ℕ) (own : List Entry) → f 0 ≡ length own → f 1 ≡ total failed own → f 2 ≡ total (λ (e : Entry). e.elapsed) own → f 3 ≡ total (λ (e : Entry). e.bytes) own
    → f 4 ≡ least_or (elapsed_of own) → f 5 ≡ greatest_of (elapsed_of own) → row_from f ≡ tally_of own
row_is f [] c s t y least greatest = ap (λ (b : Bool). cond b no_samples (row_cells f)) (eq-eqb (f 0) 0 c)
row_is f (x ∷ xs) c s t y least greatest =
    ap (λ (b : Bool). cond b no_samples (row_cells f)) (ne_eqb (f 0) 0 (λ z. omega arith))
    ∙ (λ i. record { count = c i; errors = s i; total = t i; bytes = y i; least = least i; greatest = greatest i })

pub rows_are : (upto : ℕ) (es : List Entry) → AllSmallEntries es → rows_from upto (λ l c. column_at c l es) ≡ sum_of upto es
rows_are zero es h = refl
rows_are (suc l) es h =
    let here : row_from (λ c. column_at c l es) ≡ row_of l es = row_is (λ c. column_at c l es) (of_label l es) (counts_at l es) (errors_at l es) (totals_at l es) (bytes_at l es) (least_at l es h) (greatest_at l es) in
    λ i. rows_are l es h i ++ here i ∷ []

-- entries with the same columns have the same sum
pub same_columns : (labels : ℕ) (es fs : List Entry) → AllSmallEntries es → AllSmallEntries fs → ((l c : ℕ) → column_at c l es ≡ column_at c l fs) → sum_of labels es ≡ sum_of labels fs
same_columns labels es fs h k same =
    sym (rows_are labels es h) ∙ rows_same labels (λ l c. column_at c l es) (λ l c. column_at c l fs) (λ l c _ _. same l c) ∙ rows_are labels fs k

-- what few entries add up to is far from the end of a word
pub column_low : (c l : ℕ) (es : List Entry) → c < 4 → AllSmallEntries es → column_at c l es ≤ 4294967296 * length es
column_low c l [] sum h = let u = vacant_sum c sum in omega arith
column_low c l (e ∷ es) sum h =
    let r = column_low c l es sum h.2 in let u = vacant_sum c sum in
    let p = pick_low (e.label == l) (part c e) (vacant c) 4294967296 (part_low c e h.0 h.1) (omega arith) in
    let o = combine_sum c (pick (e.label == l) (part c e) (vacant c)) (column_at c l es) sum in omega arith
