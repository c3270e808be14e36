-- Rows into which cells are folded one by one, and sums of two lists of entries of which one is counted for the first labels alone.
use Rattle.std.proofs.Common.{◌≡◌, ℕ, zero, suc, ◌+◌, ◌<◌, ◌≤◌, ◌==◌, Bool, true, false, cond, List, [], ◌∷◌, ◌++◌, length, get_or, set, sym, refl, ap, subst, arith}
use mathlib.Core.Logic.{dite}
use native.Mathlib.Decide.{ℕ_discrete}
use Rattle.jm_base.specs.declared.types.Entry.{Entry}
use Rattle.interval_tables.specs.declared.row.Row.{Row}
use Rattle.jm_base.specs.SumTotals.{total}
use Rattle.interval_tables.specs.Rows.{row_of, sum_of, AllLabels, no_samples, joined, merged, merged_rows, IsInBounds, CanMergeSamples}
use Rattle.interval_tables.proofs.Totals.{total_written}
use Rattle.interval_tables.proofs.Sums.{merged_both, counts_over, errors_over, over_labels}
use Rattle.interval_tables.proofs.Bounds.{AllSmall, small_times}
use Rattle.jm_base.proofs.Totals.{total_snoc}

-- where the rows are in bounds after a fold, no counter wraps in it
pub can_fold : (rows : List Row) (label : ℕ) (b : Row) → label < length rows → IsInBounds (set rows label (merged (get_or rows label no_samples) b)) → CanMergeSamples (get_or rows label no_samples) b
can_fold rows label b low bounds some_old some_new =
    let a : Row = get_or rows label no_samples in
    let both : IsInBounds (set rows label (joined a b)) = subst (λ (w : Row). IsInBounds (set rows label w)) (merged_both a b some_old some_new) bounds in
    let c = total_written (λ (r : Row). r.count) rows label (joined a b) low in let c' = both.counts in
    let f = total_written (λ (r : Row). r.errors) rows label (joined a b) low in let f' = both.errors in
    let t = total_written (λ (r : Row). r.total) rows label (joined a b) low in let t' = both.totals in
    let y = total_written (λ (r : Row). r.bytes) rows label (joined a b) low in let y' = both.bytes in
    record { counts = omega arith; errors = omega arith; totals = omega arith; bytes = omega arith }

-- Rows of which the first are merged with others

pub merged_none : (rows : List Row) → merged_rows rows [] ≡ rows
merged_none [] = refl
merged_none (a ∷ rows) = refl

-- one more row is merged
pub merged_more : (rows others : List Row) (b : Row) (i : ℕ) → length others ≡ i → i < length rows
    → set (merged_rows rows others) i (merged (get_or (merged_rows rows others) i no_samples) b) ≡ merged_rows rows (others ++ b ∷ [])
merged_more [] others b i e low = absurd (omega arith)
merged_more (a ∷ rows) [] b zero e low = ap (λ (l : List Row). merged a b ∷ l) (sym (merged_none rows))
merged_more (a ∷ rows) [] b (suc i) e low = absurd (omega arith)
merged_more (a ∷ rows) (y ∷ others) b zero e low = absurd (omega arith)
merged_more (a ∷ rows) (y ∷ others) b (suc i) e low = ap (λ (l : List Row). merged a y ∷ l) (merged_more rows others b i (omega arith) (omega arith))

pub length-merged_rows : (rows others : List Row) → length (merged_rows rows others) ≡ length rows
length-merged_rows [] others = refl
length-merged_rows (a ∷ rows) [] = refl
length-merged_rows (a ∷ rows) (b ∷ others) = let r = length-merged_rows rows others in omega arith

-- Bounds

-- a counter of a merged row is at most that of both
counter_low : (f : Row → ℕ) (s t : Bool) (a b c : Row) → f c ≤ f a + f b → f (cond s a (cond t b c)) ≤ f a + f b
counter_low f true t a b c h = omega arith
counter_low f false true a b c h = omega arith
counter_low f false false a b c h = h

merged_low : (f : Row → ℕ) → ((a b : Row) → f (merged a b) ≤ f a + f b) → (rows others : List Row) → total f (merged_rows rows others) ≤ total f rows + total f others
merged_low f h [] others = omega arith
merged_low f h (a ∷ rows) [] = omega arith
merged_low f h (a ∷ rows) (b ∷ others) = let r = merged_low f h rows others in let s = h a b in omega arith

-- a counter of fewer labels
sum_grows : (f : Row → ℕ) (es : List Entry) (k n : ℕ) → k ≤ n → total f (sum_of k es) ≤ total f (sum_of n es)
sum_grows f es k zero h = let none : k ≡ 0 = omega arith in let z : total f (sum_of k es) ≡ total f (sum_of 0 es) = ap (λ (m : ℕ). total f (sum_of m es)) none in omega arith
sum_grows f es k (suc n) h = dite (ℕ_discrete k (suc n))
    (λ e. let same : total f (sum_of k es) ≡ total f (sum_of (suc n) es) = ap (λ (m : ℕ). total f (sum_of m es)) e in omega arith)
    (λ ne. let r = sum_grows f es k n (omega arith) in let s = total_snoc f (sum_of n es) (row_of n es) in omega arith)

-- the sum of few entries, with that of others for the first labels, is in bounds
pub partly_in_bounds : (n k : ℕ) (es fs : List Entry) → k ≤ n → AllLabels n es → AllLabels n fs → AllSmall es → AllSmall fs → length es + length fs ≤ 4194304 → IsInBounds (merged_rows (sum_of n es) (sum_of k fs))
partly_in_bounds n k es fs low labels labels' small small' few =
    let as' : List Row = sum_of n es in let bs : List Row = sum_of k fs in
    let c = merged_low (λ (r : Row). r.count) (λ a b. counter_low (λ (r : Row). r.count) (b.count == 0) (a.count == 0) a b (joined a b) (omega arith)) as' bs in
    let f = merged_low (λ (r : Row). r.errors) (λ a b. counter_low (λ (r : Row). r.errors) (b.count == 0) (a.count == 0) a b (joined a b) (omega arith)) as' bs in
    let t = merged_low (λ (r : Row). r.total) (λ a b. counter_low (λ (r : Row). r.total) (b.count == 0) (a.count == 0) a b (joined a b) (omega arith)) as' bs in
    let y = merged_low (λ (r : Row). r.bytes) (λ a b. counter_low (λ (r : Row). r.bytes) (b.count == 0) (a.count == 0) a b (joined a b) (omega arith)) as' bs in
    let c0 = counts_over n es labels in let c1 = counts_over n fs labels' in let c2 = sum_grows (λ (r : Row). r.count) fs k n low in
    let f0 = errors_over n es labels in let f1 = errors_over n fs labels' in let f2 = sum_grows (λ (r : Row). r.errors) fs k n low in
    let t0 = over_labels (λ (r : Row). r.total) (λ (e : Entry). e.elapsed) (λ _. refl) n es labels in
    let t1 = over_labels (λ (r : Row). r.total) (λ (e : Entry). e.elapsed) (λ _. refl) n fs labels' in let t2 = sum_grows (λ (r : Row). r.total) fs k n low in
    let y0 = over_labels (λ (r : Row). r.bytes) (λ (e : Entry). e.bytes) (λ _. refl) n es labels in
    let y1 = over_labels (λ (r : Row). r.bytes) (λ (e : Entry). e.bytes) (λ _. refl) n fs labels' in let y2 = sum_grows (λ (r : Row). r.bytes) fs k n low in
    let s = small_times es small in let s0 = s.0 in let s1 = s.1 in let s2 = s.2 in
    let u = small_times fs small' in let u0 = u.0 in let u1 = u.1 in let u2 = u.2 in
    record { counts = omega arith; errors = omega arith; totals = omega arith; bytes = omega arith }
