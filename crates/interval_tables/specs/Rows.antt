-- Rows of counters, and the rows that a list of entries sums to.
use Rattle.std.specs.Prelude.{◌≢◌, ℕ, zero, suc, ◌+◌, ◌^◌, ◌<◌, ◌≤◌, ◌==◌, not, min, max, if◌then◌else◌, List, [], ◌∷◌, ◌++◌, length, filter, map, slice_set, slice_index_or}
use Rattle.jm_base.specs.declared.types.Entry.{Entry}
use Rattle.interval_tables.specs.declared.row.Row.{Row}
use Rattle.jm_base.specs.SumTotals.{total, one_if}

-- 1 for a sample that failed
abbrev pub failed : Entry → ℕ
failed e = one_if (not e.ok)

-- the least and the greatest of numbers, 0 where there is none
abbrev pub least_after : ℕ → List ℕ → ℕ
least_after x [] = x
least_after x (y ∷ ys) = min x (least_after y ys)

abbrev pub least_of : List ℕ → ℕ
least_of [] = 0
least_of (x ∷ xs) = least_after x xs

abbrev pub greatest_of : List ℕ → ℕ
greatest_of [] = 0
greatest_of (x ∷ xs) = max x (greatest_of xs)

-- the entries of a label
abbrev pub of_label : ℕ → List Entry → List Entry
of_label l es = filter (λ e. e.label == l) es

abbrev pub elapsed_of : List Entry → List ℕ
elapsed_of es = map (λ e. e.elapsed) es

-- what is counted of entries of one label
abbrev pub tally_of : List Entry → Row
tally_of es = record {
  count = length es;
  errors = total failed es;
  total = total (λ e. e.elapsed) es;
  bytes = total (λ e. e.bytes) es;
  least = least_of (elapsed_of es);
  greatest = greatest_of (elapsed_of es);
}

-- the row of a label
abbrev pub row_of : ℕ → List Entry → Row
row_of l es = tally_of (of_label l es)

-- the rows of the labels 0 to labels - 1, in their order
abbrev pub sum_of : ℕ → List Entry → List Row
sum_of zero es = []
sum_of (suc labels) es = sum_of labels es ++ row_of labels es ∷ []

-- every entry's label is in range
abbrev pub AllLabels : ℕ → List Entry → Type 0
AllLabels labels [] = Unit {0}
AllLabels labels (e ∷ es) = (e.label < labels) × AllLabels labels es

abbrev pub no_samples : Row
no_samples = record { count = 0; errors = 0; total = 0; bytes = 0; least = 0; greatest = 0 }

-- the row with one more sample
abbrev pub with_entry : Row → Entry → Row
with_entry r e = record {
  count = r.count + 1;
  errors = r.errors + failed e;
  total = r.total + e.elapsed;
  bytes = r.bytes + e.bytes;
  least = if r.count == 0 then e.elapsed else min r.least e.elapsed;
  greatest = if r.count == 0 then e.elapsed else max r.greatest e.elapsed;
}

-- two rows that have samples as one
abbrev pub joined : Row → Row → Row
joined a b = record {
  count = a.count + b.count;
  errors = a.errors + b.errors;
  total = a.total + b.total;
  bytes = a.bytes + b.bytes;
  least = min a.least b.least;
  greatest = max a.greatest b.greatest;
}

-- two rows of one label as one
abbrev pub merged : Row → Row → Row
merged a b = if b.count == 0 then a else if a.count == 0 then b else joined a b

-- six cells in their order: count, errors, total, bytes, least, greatest
abbrev pub row_cells : (ℕ → ℕ) → Row
row_cells f = record { count = f 0; errors = f 1; total = f 2; bytes = f 3; least = f 4; greatest = f 5 }

-- the row of six cells: where the count is 0 it is all zeros, whatever the other cells are
abbrev pub row_from : (ℕ → ℕ) → Row
row_from f = if f 0 == 0 then no_samples else row_cells f

-- the rows with the samples of six more cells of a label
abbrev pub rows_folded : List Row → ℕ → (ℕ → ℕ) → List Row
rows_folded rows label f = slice_set rows label (merged (slice_index_or rows label no_samples) (row_from f))

-- the rows with one more sample
abbrev pub rows_with : List Row → Entry → List Row
rows_with rows e = slice_set rows e.label (with_entry (slice_index_or rows e.label no_samples) e)

-- row by row
abbrev pub merged_rows : List Row → List Row → List Row
merged_rows [] bs = []
merged_rows (a ∷ as') [] = a ∷ as'
merged_rows (a ∷ as') (b ∷ bs) = merged a b ∷ merged_rows as' bs

-- Over all rows together the counts and the errors are each at most 4,194,304, and the totals and the bytes each below 2^54.
pub record IsInBounds (rows : List Row) : Type 0 where
  pub counts : total (λ (r : Row). r.count) rows ≤ 4194304
  pub errors : total (λ (r : Row). r.errors) rows ≤ 4194304
  pub totals : total (λ (r : Row). r.total) rows < 2 ^ 54
  pub bytes : total (λ (r : Row). r.bytes) rows < 2 ^ 54

-- no counter of the row wraps
pub record CanTake (r : Row) (e : Entry) : Type 0 where
  pub counts : r.count + 1 ≤ 4194304
  pub errors : r.errors + failed e ≤ 4194304
  pub totals : r.total + e.elapsed < 2 ^ 54
  pub bytes : r.bytes + e.bytes < 2 ^ 54

-- no counter of the row that two make wraps
pub record CanMerge (a b : Row) : Type 0 where
  pub counts : a.count + b.count < 2 ^ 64
  pub errors : a.errors + b.errors < 2 ^ 64
  pub totals : a.total + b.total < 2 ^ 64
  pub bytes : a.bytes + b.bytes < 2 ^ 64

-- the same where both have samples: otherwise nothing is added
abbrev pub CanMergeSamples : Row → Row → Type 0
CanMergeSamples a b = a.count ≢ 0 → b.count ≢ 0 → CanMerge a b

-- no counter of any row wraps
abbrev pub CanMergeRows : List Row → List Row → Type 0
CanMergeRows [] bs = Unit {0}
CanMergeRows (a ∷ as') [] = Unit {0}
CanMergeRows (a ∷ as') (b ∷ bs) = CanMerge a b × CanMergeRows as' bs
