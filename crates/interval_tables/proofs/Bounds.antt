-- Rows in bounds: no counter wraps, and rows that are merged one by one.
use Rattle.std.proofs.Common.{length-append, ◌≡◌, ℕ, zero, suc, ◌+◌, ◌*◌, not, Bool, true, false, ◌<◌, ◌≤◌, List, [], ◌∷◌, ◌++◌, length, get_or, set, take, drop, sym, refl, ap, ◌∙◌, subst, arith, add-one}
use Rattle.jm_base.specs.declared.types.Entry.{Entry}
use Rattle.interval_tables.specs.declared.row.Row.{Row}
use Rattle.jm_base.specs.SumTotals.{total, one_if}
use Rattle.interval_tables.specs.Rows.{failed, sum_of, AllLabels, no_samples, with_entry, merged, rows_with, merged_rows, IsInBounds, CanTake, CanMerge, CanMergeRows}
use Rattle.interval_tables.proofs.Totals.{total_written}
use Rattle.interval_tables.proofs.Sums.{counts_over, errors_over, over_labels, length-sum_of, sum_of_add}

pub can_take : (rows : List Row) (e : Entry) → e.label < length rows → IsInBounds (rows_with rows e) → CanTake (get_or rows e.label no_samples) e
can_take rows e h b =
    let w : Row = with_entry (get_or rows e.label no_samples) e in
    let c = total_written (λ (r : Row). r.count) rows e.label w h in let c' = b.counts in
    let f = total_written (λ (r : Row). r.errors) rows e.label w h in let f' = b.errors in
    let t = total_written (λ (r : Row). r.total) rows e.label w h in let t' = b.totals in
    let y = total_written (λ (r : Row). r.bytes) rows e.label w h in let y' = b.bytes in
    record { counts = omega arith; errors = omega arith; totals = omega arith; bytes = omega arith }

record Low (rows : List Row) : Type 0 where
  counts : total (λ (r : Row). r.count) rows < 9223372036854775808
  errors : total (λ (r : Row). r.errors) rows < 9223372036854775808
  totals : total (λ (r : Row). r.total) rows < 9223372036854775808
  bytes : total (λ (r : Row). r.bytes) rows < 9223372036854775808

low_merge : (as' bs : List Row) → Low as' → Low bs → CanMergeRows as' bs
low_merge [] bs h k = tt
low_merge (a ∷ as') [] h k = tt
low_merge (a ∷ as') (b ∷ bs) h k =
    let c = h.counts in let f = h.errors in let t = h.totals in let y = h.bytes in
    let c' = k.counts in let f' = k.errors in let t' = k.totals in let y' = k.bytes in (
      record { counts = omega arith; errors = omega arith; totals = omega arith; bytes = omega arith },
      low_merge as' bs (record { counts = omega arith; errors = omega arith; totals = omega arith; bytes = omega arith })
          (record { counts = omega arith; errors = omega arith; totals = omega arith; bytes = omega arith }),
    )

low : (rows : List Row) → IsInBounds rows → Low rows
low rows b = let c = b.counts in let f = b.errors in let t = b.totals in let y = b.bytes in
    record { counts = omega arith; errors = omega arith; totals = omega arith; bytes = omega arith }

pub can_merge : (as' bs : List Row) → IsInBounds as' → IsInBounds bs → CanMergeRows as' bs
can_merge as' bs h k = low_merge as' bs (low as' h) (low bs k)

pub can_merge_at : (as' bs : List Row) (i : ℕ) (d d' : Row) → CanMergeRows as' bs → i < length as' → length bs ≡ length as' → CanMerge (get_or as' i d) (get_or bs i d')
can_merge_at [] bs i d d' h lt e = absurd (omega arith)
can_merge_at (a ∷ as') [] i d d' h lt e = absurd (omega arith)
can_merge_at (a ∷ as') (b ∷ bs) zero d d' h lt e = h.0
can_merge_at (a ∷ as') (b ∷ bs) (suc i) d d' h lt e = can_merge_at as' bs i d d' h.1 (omega arith) (omega arith)

-- the rows of which the first i are merged
abbrev pub merged_to : ℕ → List Row → List Row → List Row
merged_to i as' bs = merged_rows (take i as') (take i bs) ++ drop i as'

pub length-merged_to : (as' bs : List Row) (i : ℕ) → length bs ≡ length as' → length (merged_to i as' bs) ≡ length as'
length-merged_to as' bs zero e = refl
length-merged_to [] [] (suc i) e = refl
length-merged_to [] (b ∷ bs) (suc i) e = absurd (omega arith)
length-merged_to (a ∷ as') [] (suc i) e = absurd (omega arith)
length-merged_to (a ∷ as') (b ∷ bs) (suc i) e = let r = length-merged_to as' bs i (omega arith) in omega arith

pub merged_here : (as' bs : List Row) (i : ℕ) (d : Row) → i < length as' → length bs ≡ length as' → get_or (merged_to i as' bs) i d ≡ get_or as' i d
merged_here [] bs i d lt e = absurd (omega arith)
merged_here (a ∷ as') [] i d lt e = absurd (omega arith)
merged_here (a ∷ as') (b ∷ bs) zero d lt e = refl
merged_here (a ∷ as') (b ∷ bs) (suc i) d lt e = merged_here as' bs i d (omega arith) (omega arith)

merged_suc : (as' bs : List Row) (i : ℕ) (d d' : Row) → i < length as' → length bs ≡ length as' → set (merged_to i as' bs) i (merged (get_or as' i d) (get_or bs i d')) ≡ merged_to (suc i) as' bs
merged_suc [] bs i d d' lt e = absurd (omega arith)
merged_suc (a ∷ as') [] i d d' lt e = absurd (omega arith)
merged_suc (a ∷ as') (b ∷ bs) zero d d' lt e = refl
merged_suc (a ∷ as') (b ∷ bs) (suc i) d d' lt e = ap (λ (l : List Row). merged a b ∷ l) (merged_suc as' bs i d d' (omega arith) (omega arith))

pub merged_next : (as' bs : List Row) (i : ℕ) (d d' : Row) → i < length as' → length bs ≡ length as' → set (merged_to i as' bs) i (merged (get_or as' i d) (get_or bs i d')) ≡ merged_to (i + 1) as' bs
merged_next as' bs i d d' lt e = merged_suc as' bs i d d' lt e ∙ ap (λ (n : ℕ). merged_to n as' bs) (sym (add-one i))

pub merged_all : (as' bs : List Row) (i : ℕ) → length bs ≡ length as' → length bs ≡ i → merged_to i as' bs ≡ merged_rows as' bs
merged_all [] [] zero e f = refl
merged_all [] (b ∷ bs) i e f = absurd (omega arith)
merged_all (a ∷ as') [] i e f = absurd (omega arith)
merged_all (a ∷ as') (b ∷ bs) zero e f = absurd (omega arith)
merged_all (a ∷ as') (b ∷ bs) (suc i) e f = ap (λ (l : List Row). merged a b ∷ l) (merged_all as' bs i (omega arith) (omega arith))
merged_all [] [] (suc i) e f = absurd (omega arith)

pub can_merge_there : (rows as' bs : List Row) (i : ℕ) (d d' : Row) → rows ≡ merged_to i as' bs → CanMergeRows as' bs → i < length as' → length bs ≡ length as' → CanMerge (get_or rows i d) (get_or bs i d')
can_merge_there rows as' bs i d d' is can lt e =
    let here : get_or as' i d ≡ get_or rows i d = sym (ap (λ (l : List Row). get_or l i d) is ∙ merged_here as' bs i d lt e) in
    subst (λ (r : Row). CanMerge r (get_or bs i d')) here (can_merge_at as' bs i d d' can lt e)

pub merged_there : (rows as' bs : List Row) (i : ℕ) (d d' r : Row) → rows ≡ merged_to i as' bs → r ≡ merged (get_or rows i d) (get_or bs i d') → i < length as' → length bs ≡ length as' → set rows i r ≡ merged_to (i + 1) as' bs
merged_there rows as' bs i d d' r is made lt e =
    let here : get_or rows i d ≡ get_or as' i d = ap (λ (l : List Row). get_or l i d) is ∙ merged_here as' bs i d lt e in
    (λ t. set (is t) i ((made ∙ ap (λ (x : Row). merged x (get_or bs i d')) here) t)) ∙ merged_next as' bs i d d' lt e

-- the entries' numbers are those of 32 bits
abbrev pub AllSmall : List Entry → Type 0
AllSmall [] = Unit {0}
AllSmall (e ∷ es) = (e.elapsed < 4294967296) × (e.bytes < 4294967296) × AllSmall es

failed_low : (b : Bool) → one_if (not b) ≤ 1
failed_low true = omega arith
failed_low false = omega arith

pub small_times : (es : List Entry) → AllSmall es → (total (λ (e : Entry). e.elapsed) es ≤ 4294967295 * length es) × (total (λ (e : Entry). e.bytes) es ≤ 4294967295 * length es) × (total failed es ≤ length es)
small_times [] h = (omega arith, omega arith, omega arith)
small_times (e ∷ es) h = let r = small_times es h.2 in let f = failed_low e.ok in let a = r.0 in let b = r.1 in let c = r.2 in (omega arith, omega arith, omega arith)

-- the sum of at most 4,194,304 entries is in bounds
pub sum_in_bounds : (n : ℕ) (es : List Entry) → AllLabels n es → AllSmall es → length es ≤ 4194304 → IsInBounds (sum_of n es)
sum_in_bounds n es labels small few =
    let c = counts_over n es labels in let f = errors_over n es labels in
    let t = over_labels (λ (r : Row). r.total) (λ (e : Entry). e.elapsed) (λ _. refl) n es labels in
    let b = over_labels (λ (r : Row). r.bytes) (λ (e : Entry). e.bytes) (λ _. refl) n es labels in
    let s = small_times es small in let s0 = s.0 in let s1 = s.1 in let s2 = s.2 in
    record { counts = omega arith; errors = omega arith; totals = omega arith; bytes = omega arith }

-- one more entry may be counted where the rows are the sum of fewer than 4,194,304 entries
pub record CanAdd (rows : List Row) (e : Entry) : Type 0 where
  pub label : e.label < length rows
  pub bounds : IsInBounds rows
  pub room : IsInBounds (rows_with rows e)

all_labels_snoc : (n : ℕ) (es : List Entry) (e : Entry) → AllLabels n es → e.label < n → AllLabels n (es ++ e ∷ [])
all_labels_snoc n [] e h l = (l, tt)
all_labels_snoc n (x ∷ es) e h l = (h.0, all_labels_snoc n es e h.1 l)

all_small_snoc : (es : List Entry) (e : Entry) → AllSmall es → e.elapsed < 4294967296 → e.bytes < 4294967296 → AllSmall (es ++ e ∷ [])
all_small_snoc [] e h a b = (a, b, tt)
all_small_snoc (x ∷ es) e h a b = (h.0, h.1, all_small_snoc es e h.2 a b)

pub can_add : (n : ℕ) (rows : List Row) (es : List Entry) (e : Entry) → rows ≡ sum_of n es → AllLabels n es → AllSmall es → length es < 4194304 → e.label < n → e.elapsed < 4294967296 → e.bytes < 4294967296 → CanAdd rows e
can_add n rows es e is labels small few label elapsed bytes =
    let long : length (sum_of n es) ≡ n = length-sum_of n es in
    let more : length (es ++ e ∷ []) ≡ length es + 1 = length-append es (e ∷ []) in
    subst (λ (l : List Row). CanAdd l e) (sym is) (record {
      label = omega arith;
      bounds = sum_in_bounds n es labels small (omega arith);
      room = subst IsInBounds (sym (sum_of_add n es e label)) (sum_in_bounds n (es ++ e ∷ []) (all_labels_snoc n es e labels label) (all_small_snoc es e small elapsed bytes) (omega arith));
    })
