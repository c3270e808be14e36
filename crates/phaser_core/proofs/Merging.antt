-- Reports that are merged one after the other: their rows are what all entries of the reports sum to.
use Rattle.std.proofs.Common.{◌≡◌, ℕ, zero, suc, ◌+◌, ◌<◌, ◌≤◌, List, [], ◌∷◌, ◌++◌, length, get_or, sym, refl, ap, ◌∙◌, subst, arith, append_assoc}
use Rattle.std.proofs.lemmas.List.{append-nil}
use Rattle.jm_base.specs.declared.types.Entry.{Entry}
use Rattle.interval_tables.specs.declared.row.Row.{Row}
use Rattle.interval_tables.specs.declared.report.Report.{Report}
use Rattle.interval_tables.specs.Rows.{sum_of, AllLabels, IsInBounds, merged_rows}
use Rattle.interval_tables.proofs.Bounds.{AllSmall, sum_in_bounds}
use Rattle.interval_tables.proofs.Sums.{sum_of_append}
use Rattle.phaser_core.specs.Cells.{no_report}
use Rattle.phaser_core.specs.Shares.{merged_from, rows_of_all}
use Rattle.phaser_core.proofs.Stripes.{small_append, labels_append}

-- the lists j to j + n - 1 of f, one after the other
abbrev pub in_turn : ℕ → ℕ → (ℕ → List Entry) → List Entry
in_turn j zero f = []
in_turn j (suc n) f = f j ++ in_turn (suc j) n f

pub turns_labels : (labels j n : ℕ) (f : ℕ → List Entry) → ((m : ℕ) → AllLabels labels (f m)) → AllLabels labels (in_turn j n f)
turns_labels labels j zero f h = tt
turns_labels labels j (suc n) f h = labels_append labels (f j) (in_turn (suc j) n f) (h j) (turns_labels labels (suc j) n f h)

pub turns_small : (j n : ℕ) (f : ℕ → List Entry) → ((m : ℕ) → AllSmall (f m)) → AllSmall (in_turn j n f)
turns_small j zero f h = tt
turns_small j (suc n) f h = small_append (f j) (in_turn (suc j) n f) (h j) (turns_small (suc j) n f h)

-- one list more
pub turns_next : (j n : ℕ) (f : ℕ → List Entry) → in_turn j (suc n) f ≡ in_turn j n f ++ f (j + n)
turns_next j zero f = append-nil (f j) ∙ ap f (let e : j ≡ j + 0 = omega arith in e)
turns_next j (suc n) f =
    ap (λ (l : List Entry). f j ++ l) (turns_next (suc j) n f ∙ ap (λ (k : ℕ). in_turn (suc j) n f ++ f k) (let e : suc j + n ≡ j + suc n = omega arith in e))
    ∙ sym (append_assoc (f j) (in_turn (suc j) n f) (f (j + suc n)))

-- reports of which each sums a list, merged with the rows of some entries
merged_after : (labels j : ℕ) (reports : List Report) (f : ℕ → List Entry) (rows : List Row) (es : List Entry) → rows ≡ sum_of labels es → ((m : ℕ) → m < length reports → (get_or reports m no_report).rows ≡ sum_of labels (f (j + m))) → merged_from rows reports ≡ sum_of labels (es ++ in_turn j (length reports) f)
merged_after labels j [] f rows es is each = is ∙ ap (sum_of labels) (sym (append-nil es))
merged_after labels j (r ∷ rs) f rows es is each =
    let first : r.rows ≡ sum_of labels (f j) = each 0 (omega arith) ∙ ap (λ (k : ℕ). sum_of labels (f k)) (let e : j + 0 ≡ j = omega arith in e) in
    let others : (m : ℕ) → m < length rs → (get_or rs m no_report).rows ≡ sum_of labels (f (suc j + m)) =
    λ m low. each (suc m) (omega arith) ∙ ap (λ (k : ℕ). sum_of labels (f k)) (let e : j + suc m ≡ suc j + m = omega arith in e) in
    let here = (λ i. merged_rows (is i) (first i)) ∙ sum_of_append labels es (f j) in
    merged_after labels (suc j) rs f (merged_rows rows r.rows) (es ++ f j) here others
    ∙ ap (sum_of labels) (append_assoc es (f j) (in_turn (suc j) (length rs) f))

-- reports of which each sums a list are together the sum of all lists
pub merged_turns : (labels : ℕ) (reports : List Report) (f : ℕ → List Entry) → ((m : ℕ) → m < length reports → (get_or reports m no_report).rows ≡ sum_of labels (f m)) → rows_of_all labels reports ≡ sum_of labels (in_turn 0 (length reports) f)
merged_turns labels reports f each =
    merged_after labels 0 reports f (sum_of labels []) [] refl (λ m low. each m low ∙ ap (λ (k : ℕ). sum_of labels (f k)) (let e : m ≡ 0 + m = omega arith in e))

-- and so in bounds where these are few and small
pub merged_bounds : (labels : ℕ) (reports : List Report) (f : ℕ → List Entry) → ((m : ℕ) → m < length reports → (get_or reports m no_report).rows ≡ sum_of labels (f m)) → ((m : ℕ) → AllLabels labels (f m)) → ((m : ℕ) → AllSmall (f m)) → length (in_turn 0 (length reports) f) ≤ 4194304 → IsInBounds (rows_of_all labels reports)
merged_bounds labels reports f each in_range small few =
    subst IsInBounds (sym (merged_turns labels reports f each))
    (sum_in_bounds labels (in_turn 0 (length reports) f) (turns_labels labels 0 (length reports) f in_range) (turns_small 0 (length reports) f small) few)

-- one report more
pub report_more : (rows : List Row) (reports : List Report) (r : Report) → merged_from rows (reports ++ r ∷ []) ≡ merged_rows (merged_from rows reports) r.rows
report_more rows [] r = refl
report_more rows (x ∷ xs) r = report_more (merged_rows rows x.rows) xs r
