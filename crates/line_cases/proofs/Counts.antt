-- Rows that count a few samples: their bounds, one more sample, and two reports as one.
use Rattle.std.proofs.Common.{◌≡◌, ℕ, ◌+◌, ◌≤◌, ◌<◌, List, [], ◌∷◌, ◌++◌, length, sym, ap, ◌∙◌, subst, arith, length-append}
use Rattle.jm_base.specs.declared.types.Entry.{Entry}
use Rattle.interval_tables.specs.declared.row.Row.{Row}
use Rattle.interval_tables.specs.Rows.{rows_with, merged_rows, AllLabels, IsInBounds}
use Rattle.interval_tables.proofs.Sums.{length-sum_of, sum_of_add, sum_of_append}
use Rattle.interval_tables.proofs.Bounds.{AllSmall, CanAdd, can_add, sum_in_bounds}
use Rattle.line_cases.specs.Counted.{IsCount}

labels_append : (n : ℕ) (es fs : List Entry) → AllLabels n es → AllLabels n fs → AllLabels n (es ++ fs)
labels_append n [] fs h k = k
labels_append n (e ∷ es) fs h k = (h.0, labels_append n es fs h.1 k)

small_append : (es fs : List Entry) → AllSmall es → AllSmall fs → AllSmall (es ++ fs)
small_append [] fs h k = k
small_append (e ∷ es) fs h k = (h.0, h.1, small_append es fs h.2 k)

pub in_bounds : (labels k : ℕ) (rows : List Row) → IsCount labels rows k → k ≤ 4194304 → IsInBounds rows
in_bounds labels k rows is low = subst IsInBounds (sym is.sum) (sum_in_bounds labels is.samples is.labelled is.small (let few = is.few in omega arith))

pub as_long : (labels k : ℕ) (rows : List Row) → IsCount labels rows k → length rows ≡ labels
as_long labels k rows is = ap length is.sum ∙ length-sum_of labels is.samples

pub can_count : (labels k : ℕ) (rows : List Row) (e : Entry) → IsCount labels rows k → k < 4194304 → e.label < labels → e.elapsed < 4294967296 → e.bytes < 4294967296 → CanAdd rows e
can_count labels k rows e is low label elapsed bytes = can_add labels rows is.samples e is.sum is.labelled is.small (let few = is.few in omega arith) label elapsed bytes

pub one_more : (labels k : ℕ) (rows now : List Row) (e : Entry) → IsCount labels rows k → e.label < labels → e.elapsed < 4294967296 → e.bytes < 4294967296 → now ≡ rows_with rows e → IsCount labels now (k + 1)
one_more labels k rows now e is label elapsed bytes now_is = record {
  samples = is.samples ++ e ∷ [];
  sum = now_is ∙ ap (λ (rs : List Row). rows_with rs e) is.sum ∙ sum_of_add labels is.samples e label;
  labelled = labels_append labels is.samples (e ∷ []) is.labelled (label, tt);
  small = small_append is.samples (e ∷ []) is.small (elapsed, bytes, tt);
  few = let few = is.few in let long = length-append is.samples (e ∷ []) in omega arith;
}

pub merged_in_bounds : (labels k m : ℕ) (rows others : List Row) → IsCount labels rows k → IsCount labels others m → k + m ≤ 4194304 → IsInBounds (merged_rows rows others)
merged_in_bounds labels k m rows others is are low =
    let both : IsCount labels (merged_rows rows others) (k + m) = record {
      samples = is.samples ++ are.samples;
      sum = (λ i. merged_rows (is.sum i) (are.sum i)) ∙ sum_of_append labels is.samples are.samples;
      labelled = labels_append labels is.samples are.samples is.labelled are.labelled;
      small = small_append is.samples are.samples is.small are.small;
      few = let few = is.few in let few' = are.few in let long = length-append is.samples are.samples in omega arith;
    } in
    in_bounds labels (k + m) (merged_rows rows others) both low
