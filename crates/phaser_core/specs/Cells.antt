-- The words, and what entries fold into the cells of a table.
-- Words 0 to 4 are: active, start, even end, odd end, stop. After them stand two tables of cells; interval i counts in table i mod 2.
use Rattle.std.specs.Prelude.{ℕ, zero, suc, ◌+◌, ◌*◌, ◌/◌, ◌%◌, ◌^◌, ◌==◌, not, Bool, true, false, List, [], ◌∷◌, ◌++◌, nat_lt, min, max, slice_index}
use Rattle.jm_base.specs.declared.types.Entry.{Entry}
use Rattle.interval_tables.specs.declared.row.Row.{Row}
use Rattle.interval_tables.specs.declared.report.Report.{Report}
use Rattle.jm_base.specs.SumTotals.{one_if}
use Rattle.interval_tables.specs.Rows.{sum_of, merged_rows, row_from}

-- whether a number is odd
abbrev pub is_odd : ℕ → Bool
is_odd n = n % 2 == 1

-- whether two parities are one
abbrev pub same : Bool → Bool → Bool
same true b = b
same false true = false
same false false = true

-- the end word of a parity
abbrev pub end_at : Bool → ℕ
end_at false = 2
end_at true = 3

-- what the start word and the end word of a parity begin with
abbrev pub initial : Bool → ℕ
initial false = 0
initial true = 9223372036854775808

-- the parity that a start word shows: even below 2^63
abbrev pub phase : ℕ → Bool
phase n = nat_lt 9223372036854775807 n

-- The layout. A table has four stripes, each with a row of six cells for every label: count, errors, total, bytes, least, greatest.

-- the stripe in which a writer counts
abbrev pub stripe_of : ℕ → ℕ
stripe_of writer = writer % 4

-- how many rows a table has
abbrev pub rows_in : ℕ → ℕ
rows_in labels = 4 * labels

-- the row in which a writer counts a label
abbrev pub row_at : ℕ → ℕ → ℕ → ℕ
row_at labels writer label = stripe_of writer * labels + label

abbrev pub table_cells : ℕ → ℕ
table_cells labels = 6 * rows_in labels

-- the word of a writer's cell of a label, in a table
abbrev pub place : ℕ → ℕ → ℕ → ℕ → ℕ → ℕ
place labels table writer label column = 5 + ((table * 4 + stripe_of writer) * labels + label) * 6 + column

-- the word of cell j, in word order, of the table in which the interval i counts
abbrev pub cell_at : ℕ → ℕ → ℕ → ℕ
cell_at labels i j = 5 + (i % 2 * table_cells labels + j)

abbrev pub word_count : ℕ → ℕ
word_count labels = 5 + 2 * table_cells labels

-- The fold of a column: counts, errors, totals and bytes add up, of elapsed times the least and the greatest is kept.

abbrev pub combine : ℕ → ℕ → ℕ → ℕ
combine zero x y = x + y
combine (suc zero) x y = x + y
combine (suc (suc zero)) x y = x + y
combine (suc (suc (suc zero))) x y = x + y
combine (suc (suc (suc (suc zero)))) x y = min x y
combine (suc (suc (suc (suc (suc c))))) x y = max x y

-- what a cell of the column begins with
abbrev pub vacant : ℕ → ℕ
vacant zero = 0
vacant (suc zero) = 0
vacant (suc (suc zero)) = 0
vacant (suc (suc (suc zero))) = 0
vacant (suc (suc (suc (suc zero)))) = 18446744073709551615
vacant (suc (suc (suc (suc (suc c))))) = 0

-- what a list folds to
abbrev pub gather : {A : Type 0} → ℕ → (A → ℕ) → List A → ℕ
gather c f [] = vacant c
gather c f (x ∷ xs) = combine c (f x) (gather c f xs)

-- what an atomic step makes of a cell of the column: a sum may wrap
abbrev pub folded : ℕ → ℕ → ℕ → ℕ
folded zero x y = (x + y) % 2 ^ 64
folded (suc zero) x y = (x + y) % 2 ^ 64
folded (suc (suc zero)) x y = (x + y) % 2 ^ 64
folded (suc (suc (suc zero))) x y = (x + y) % 2 ^ 64
folded (suc (suc (suc (suc zero)))) x y = min x y
folded (suc (suc (suc (suc (suc c))))) x y = max x y

abbrev pub pick : Bool → ℕ → ℕ → ℕ
pick true x u = x
pick false x u = u

-- what an entry adds, or compares, in a column
abbrev pub part : ℕ → Entry → ℕ
part zero e = 1
part (suc zero) e = one_if (not e.ok)
part (suc (suc zero)) e = e.elapsed
part (suc (suc (suc zero))) e = e.bytes
part (suc (suc (suc (suc c)))) e = e.elapsed

-- what an entry of a writer contributes to cell j
abbrev pub adds : ℕ → ℕ → ℕ → Entry → ℕ
adds labels w j e = pick (row_at labels w e.label == j / 6) (part (j % 6) e) (vacant (j % 6))

-- the column of an entry's step: one that succeeded has no step on the errors
abbrev pub skips : Bool → ℕ → ℕ
skips true d = d
skips false zero = 0
skips false (suc d) = suc (suc d)

abbrev pub column : Entry → ℕ → ℕ
column e d = skips (not e.ok) d

-- how many steps on cells an entry takes
abbrev pub sums : Entry → ℕ
sums e = 5 + one_if (not e.ok)

-- what an entry of a writer, of which d steps are done, has contributed to cell j; f says whether it failed
abbrev pub done : ℕ → ℕ → Bool → ℕ → Entry → ℕ → ℕ
done labels w f j e zero = vacant (j % 6)
done labels w f j e (suc d) = combine (j % 6) (done labels w f j e d) (pick (row_at labels w e.label == j / 6) (pick (skips f d == j % 6) (part (j % 6) e) (vacant (j % 6))) (vacant (j % 6)))

-- what entries fold to in a column of a label
abbrev pub column_at : ℕ → ℕ → List Entry → ℕ
column_at c l es = gather c (λ (e : Entry). pick (e.label == l) (part c e) (vacant c)) es

-- Reports of cells

-- where the cell of a column of a label stands, in word order, in a stripe
abbrev pub cell_of : ℕ → ℕ → ℕ → ℕ → ℕ
cell_of labels stripe l c = 6 * (stripe * labels + l) + c

-- what a column of a label comes to over the first stripes, where f gives the cells in word order: they fold as steps do
unfoldable pub folded_to : ℕ → (ℕ → ℕ) → ℕ → ℕ → ℕ → ℕ
folded_to labels f zero l c = vacant c
folded_to labels f (suc stripe) l c = folded c (folded_to labels f stripe l c) (f (cell_of labels stripe l c))

-- a row of cells with six more, folded as steps fold them
abbrev pub row_folded : Row → (ℕ → ℕ) → Row
row_folded r f = record { count = folded 0 r.count (f 0); errors = folded 1 r.errors (f 1); total = folded 2 r.total (f 2); bytes = folded 3 r.bytes (f 3); least = folded 4 r.least (f 4); greatest = folded 5 r.greatest (f 5) }

-- the rows of the labels 0 to labels - 1, where f gives what the columns of a label come to
abbrev pub rows_from : ℕ → (ℕ → ℕ → ℕ) → List Row
rows_from zero f = []
rows_from (suc labels) f = rows_from labels f ++ row_from (f labels) ∷ []

-- the rows of a stripe, of the first labels
abbrev pub stripe_rows : ℕ → (ℕ → ℕ) → ℕ → ℕ → List Row
stripe_rows labels f stripe upto = rows_from upto (λ l c. f (cell_of labels stripe l c))

-- the rows of the first stripes, merged one after the other
abbrev pub merged_to : ℕ → (ℕ → ℕ) → ℕ → List Row
merged_to labels f zero = sum_of labels []
merged_to labels f (suc stripe) = merged_rows (merged_to labels f stripe) (stripe_rows labels f stripe labels)

-- the report of an interval, where f gives the cells of its table in word order: the four stripes as one
abbrev pub report_from : ℕ → ℕ → (ℕ → ℕ) → Report
report_from labels interval f = record { interval = interval; rows = rows_from labels (folded_to labels f 4) }

-- the report of an interval whose cells were taken
abbrev pub report_of : ℕ → ℕ → List ℕ → Report
report_of labels interval cells = report_from labels interval (λ j. slice_index cells j)

abbrev pub no_report : Report
no_report = record { interval = 0; rows = [] }
