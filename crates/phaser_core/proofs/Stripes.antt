-- Stripes of cells: what they fold to is what the entries of all of them sum to.
use Rattle.std.proofs.Common.{◌≡◌, ◌≢◌, ℕ, zero, suc, ◌+◌, ◌*◌, ◌/◌, ◌%◌, ◌<◌, ◌≤◌, ◌==◌, Bool, true, false, cond, List, [], ◌∷◌, ◌++◌, length, sym, refl, ap, ◌∙◌, subst, arith, length-append, eq-eqb, ne_eqb}
use mathlib.Core.Logic.{dite}
use native.Mathlib.Decide.{ℕ_discrete}
use Rattle.std.proofs.Math.Nat.{suc-mul}
use Rattle.jm_base.specs.declared.types.Entry.{Entry}
use Rattle.interval_tables.specs.declared.row.Row.{Row}
use Rattle.interval_tables.specs.Rows.{sum_of, AllLabels, merged_rows, IsInBounds}
use Rattle.interval_tables.proofs.Bounds.{AllSmall as AllSmallEntries}
use Rattle.interval_tables.proofs.Sums.{sum_of_append}
use Rattle.interval_tables.proofs.Folding.{partly_in_bounds}
use Rattle.phaser_core.specs.Cells.{stripe_of, row_at, table_cells, combine, vacant, gather, folded, pick, part, adds, column_at, cell_of, folded_to, report_from, stripe_rows, merged_to}
use Rattle.phaser_core.specs.Shares.{stripes_to, SumsOfStripes}
use Rattle.phaser_core.proofs.Folds.{combine_comm, combine_assoc, vacant_vacant, folded_is, gather_append}
use Rattle.phaser_core.proofs.CellSteps.{cell_low, rows_same}
use Rattle.phaser_core.proofs.Columns.{rows_are, same_columns, column_low}

-- Lists of entries

pub small_append : (l m : List Entry) → AllSmallEntries l → AllSmallEntries m → AllSmallEntries (l ++ m)
small_append [] m a b = b
small_append (x ∷ xs) m a b = (a.0, a.1, small_append xs m a.2 b)

pub labels_append : (n : ℕ) (l m : List Entry) → AllLabels n l → AllLabels n m → AllLabels n (l ++ m)
labels_append n [] m a b = b
labels_append n (x ∷ xs) m a b = (a.0, labels_append n xs m a.1 b)

small_to : (of : ℕ → List Entry) (s : ℕ) → ((t : ℕ) → AllSmallEntries (of t)) → AllSmallEntries (stripes_to of s)
small_to of zero h = tt
small_to of (suc s) h = small_append (stripes_to of s) (of s) (small_to of s h) (h s)

labels_to : (n : ℕ) (of : ℕ → List Entry) (s : ℕ) → ((t : ℕ) → AllLabels n (of t)) → AllLabels n (stripes_to of s)
labels_to n of zero h = tt
labels_to n of (suc s) h = labels_append n (stripes_to of s) (of s) (labels_to n of s h) (h s)

length_to : (of : ℕ → List Entry) (s t : ℕ) → s ≤ t → length (stripes_to of s) ≤ length (stripes_to of t)
length_to of s zero h = let none : s ≡ 0 = omega arith in let z : length (stripes_to of s) ≡ length (stripes_to of 0) = ap (λ (k : ℕ). length (stripes_to of k)) none in omega arith
length_to of s (suc t) h = dite (ℕ_discrete s (suc t))
    (λ e. let same : length (stripes_to of s) ≡ length (stripes_to of (suc t)) = ap (λ (k : ℕ). length (stripes_to of k)) e in omega arith)
    (λ ne. let r = length_to of s t (omega arith) in let a = length-append (stripes_to of t) (of t) in omega arith)

-- The steps' folds

-- over few entries no sum wraps
folded_sums : (labels : ℕ) (f : ℕ → ℕ) (of : ℕ → List Entry) (l c s : ℕ) → ((t : ℕ) → AllSmallEntries (of t)) → length (stripes_to of s) ≤ 4194304 → ((t : ℕ) → t < s → f (cell_of labels t l c) ≡ column_at c l (of t))
    → folded_to labels f s l c ≡ column_at c l (stripes_to of s)
unfolding folded_to
folded_sums labels f of l c zero small few is = refl
folded_sums labels f of l c (suc s) small few is =
    let long = length-append (stripes_to of s) (of s) in
    let before : folded_to labels f s l c ≡ column_at c l (stripes_to of s) = folded_sums labels f of l c s small (omega arith) (λ t lt. is t (omega arith)) in
    let here : f (cell_of labels s l c) ≡ column_at c l (of s) = is s (omega arith) in
    (λ i. folded c (before i) (here i))
    ∙ folded_is c (column_at c l (stripes_to of s)) (column_at c l (of s)) (λ sum. let a = column_low c l (stripes_to of s) sum (small_to of s small) in let b = column_low c l (of s) sum (small s) in omega arith)
    ∙ sym (gather_append c (λ (e : Entry). pick (e.label == l) (part c e) (vacant c)) (stripes_to of s) (of s))

-- the report that a table's cells fold to sums the entries of all stripes
table_report : (labels m : ℕ) (f : ℕ → ℕ) (of : ℕ → List Entry) → ((t : ℕ) → AllSmallEntries (of t)) → length (stripes_to of 4) ≤ 4194304 → ((t l c : ℕ) → t < 4 → l < labels → c < 6 → f (cell_of labels t l c) ≡ column_at c l (of t))
    → report_from labels m f ≡ record { interval = m; rows = sum_of labels (stripes_to of 4) }
table_report labels m f of small few is =
    let columns : (l c : ℕ) → l < labels → c < 6 → folded_to labels f 4 l c ≡ column_at c l (stripes_to of 4) = λ l c low column.
    folded_sums labels f of l c 4 small few (λ t lt. is t l c lt low column) in
    ap (λ (rows : List Row). record { interval = m; rows = rows }) (rows_same labels (folded_to labels f 4) (λ l c. column_at c l (stripes_to of 4)) columns ∙ rows_are labels (stripes_to of 4) (small_to of 4 small))

stripes_report : (labels m count : ℕ) (f : ℕ → ℕ) (k : SumsOfStripes labels count f) → table_cells labels ≤ count → report_from labels m f ≡ record { interval = m; rows = sum_of labels (stripes_to k.stripes 4) }
stripes_report labels m count f k all = table_report labels m f k.stripes k.small k.few (λ t l c lt low column. k.cells t l c lt low column (let within = cell_low labels t l c lt low column in omega arith))

-- Rows of stripes that are merged one after the other

-- a cell before the label `upto` of a stripe
cell_before : (labels s l c upto : ℕ) → l < upto → c < 6 → cell_of labels s l c < 6 * (s * labels + upto)
cell_before labels s l c upto low column = omega arith

stripe_upto : (labels count : ℕ) (f : ℕ → ℕ) (k : SumsOfStripes labels count f) (s upto : ℕ) → s < 4 → upto ≤ labels → 6 * (s * labels + upto) ≤ count → stripe_rows labels f s upto ≡ sum_of upto (k.stripes s)
stripe_upto labels count f k s upto few most within =
    rows_same upto (λ l c. f (cell_of labels s l c)) (λ l c. column_at c l (k.stripes s)) (λ l c low column. k.cells s l c few (omega arith) column (let b = cell_before labels s l c upto low column in omega arith))
    ∙ rows_are upto (k.stripes s) (k.small s)

merged_sums : (labels count : ℕ) (f : ℕ → ℕ) (k : SumsOfStripes labels count f) (s : ℕ) → s ≤ 4 → 6 * (s * labels) ≤ count → merged_to labels f s ≡ sum_of labels (stripes_to k.stripes s)
merged_sums labels count f k zero few within = refl
merged_sums labels count f k (suc s) few within =
    let next = suc-mul s labels in
    let before : merged_to labels f s ≡ sum_of labels (stripes_to k.stripes s) = merged_sums labels count f k s (omega arith) (omega arith) in
    let here : stripe_rows labels f s labels ≡ sum_of labels (k.stripes s) = stripe_upto labels count f k s labels (omega arith) (omega arith) (omega arith) in
    (λ i. merged_rows (before i) (here i)) ∙ sum_of_append labels (stripes_to k.stripes s) (k.stripes s)

-- the first stripes, with the first labels of the next one, are in bounds
pub merges_in_bounds : (labels count : ℕ) (f : ℕ → ℕ) (k : SumsOfStripes labels count f) (s upto : ℕ) → s < 4 → upto ≤ labels → 6 * (s * labels + upto) ≤ count → IsInBounds (merged_rows (merged_to labels f s) (stripe_rows labels f s upto))
merges_in_bounds labels count f k s upto few most within =
    let before : merged_to labels f s ≡ sum_of labels (stripes_to k.stripes s) = merged_sums labels count f k s (omega arith) (omega arith) in
    let here : stripe_rows labels f s upto ≡ sum_of upto (k.stripes s) = stripe_upto labels count f k s upto few most within in
    let long = length-append (stripes_to k.stripes s) (k.stripes s) in let all = length_to k.stripes (suc s) 4 (omega arith) in let low = k.few in
    subst IsInBounds (λ i. merged_rows (sym before i) (sym here i))
    (partly_in_bounds labels upto (stripes_to k.stripes s) (k.stripes s) most (labels_to labels k.stripes s k.in_range) (k.in_range s) (small_to k.stripes s k.small) (k.small s) (omega arith))

-- all four stripes as one are the rows of the report
pub merged_report : (labels m count : ℕ) (f : ℕ → ℕ) → SumsOfStripes labels count f → table_cells labels ≤ count → report_from labels m f ≡ record { interval = m; rows = merged_to labels f 4 }
merged_report labels m count f k all =
    stripes_report labels m count f k all ∙ ap (λ (rows : List Row). record { interval = m; rows = rows }) (sym (merged_sums labels count f k 4 (omega arith) (omega arith)))

-- Groups: the entries of one writer in an interval, with the writer's number

abbrev pub Group : Type 0
Group = ℕ × List Entry

abbrev pub all_of : List Group → List Entry
all_of [] = []
all_of (g ∷ gs) = g.1 ++ all_of gs

-- those of the writers that count in a stripe
abbrev pub in_stripe : ℕ → List Group → List Entry
in_stripe s [] = []
in_stripe s (g ∷ gs) = cond (stripe_of g.0 == s) g.1 [] ++ in_stripe s gs

abbrev pub LabelsIn : ℕ → List Group → Type 0
LabelsIn n [] = Unit {0}
LabelsIn n (g ∷ gs) = AllLabels n g.1 × LabelsIn n gs

abbrev pub SmallIn : List Group → Type 0
SmallIn [] = Unit {0}
SmallIn (g ∷ gs) = AllSmallEntries g.1 × SmallIn gs

kept_labels : (n : ℕ) (b : Bool) (es fs : List Entry) → AllLabels n es → AllLabels n fs → AllLabels n (cond b es [] ++ fs)
kept_labels n true es fs h k = labels_append n es fs h k
kept_labels n false es fs h k = k

kept_small : (b : Bool) (es fs : List Entry) → AllSmallEntries es → AllSmallEntries fs → AllSmallEntries (cond b es [] ++ fs)
kept_small true es fs h k = small_append es fs h k
kept_small false es fs h k = k

labels_in : (n s : ℕ) (gs : List Group) → LabelsIn n gs → AllLabels n (in_stripe s gs)
labels_in n s [] h = tt
labels_in n s (g ∷ gs) h = kept_labels n (stripe_of g.0 == s) g.1 (in_stripe s gs) h.0 (labels_in n s gs h.1)

small_in : (s : ℕ) (gs : List Group) → SmallIn gs → AllSmallEntries (in_stripe s gs)
small_in s [] h = tt
small_in s (g ∷ gs) h = kept_small (stripe_of g.0 == s) g.1 (in_stripe s gs) h.0 (small_in s gs h.1)

pub small_all : (gs : List Group) → SmallIn gs → AllSmallEntries (all_of gs)
small_all [] h = tt
small_all (g ∷ gs) h = small_append g.1 (all_of gs) h.0 (small_all gs h.1)

-- Each group is in exactly one stripe

own_stripe : (s : ℕ) (g : Group) (gs : List Group) → stripe_of g.0 ≡ s → in_stripe s (g ∷ gs) ≡ g.1 ++ in_stripe s gs
own_stripe s g gs is = ap (λ (b : Bool). cond b g.1 [] ++ in_stripe s gs) (eq-eqb (stripe_of g.0) s is)

other_stripe : (s : ℕ) (g : Group) (gs : List Group) → stripe_of g.0 ≢ s → in_stripe s (g ∷ gs) ≡ in_stripe s gs
other_stripe s g gs ne = ap (λ (b : Bool). cond b g.1 [] ++ in_stripe s gs) (ne_eqb (stripe_of g.0) s ne)

module _ (c : ℕ) (f : Entry → ℕ) where
  abbrev sum_to : List Group → ℕ → ℕ
  sum_to gs s = gather c f (stripes_to (λ (t : ℕ). in_stripe t gs) s)

  next_stripe : (gs : List Group) (s : ℕ) (l : List Entry) → in_stripe s gs ≡ l → sum_to gs (suc s) ≡ combine c (sum_to gs s) (gather c f l)
  next_stripe gs s l is = ap (λ (k : List Entry). gather c f (stripes_to (λ (t : ℕ). in_stripe t gs) s ++ k)) is ∙ gather_append c f (stripes_to (λ (t : ℕ). in_stripe t gs) s) l

  before_own : (g : Group) (gs : List Group) (s : ℕ) → s ≤ stripe_of g.0 → sum_to (g ∷ gs) s ≡ sum_to gs s
  before_own g gs zero h = refl
  before_own g gs (suc s) h =
      next_stripe (g ∷ gs) s (in_stripe s gs) (other_stripe s g gs (λ e. omega arith)) ∙ ap (λ (z : ℕ). combine c z (gather c f (in_stripe s gs))) (before_own g gs s (omega arith)) ∙ sym (next_stripe gs s (in_stripe s gs) refl)

  after_own : (g : Group) (gs : List Group) (s : ℕ) → stripe_of g.0 < s → sum_to (g ∷ gs) s ≡ combine c (gather c f g.1) (sum_to gs s)
  after_own g gs zero h = absurd (omega arith)
  after_own g gs (suc s) h =
      let own : ℕ = gather c f g.1 in let rest : ℕ = gather c f (in_stripe s gs) in let before : ℕ = sum_to gs s in
      let last : combine c own (combine c before rest) ≡ combine c own (sum_to gs (suc s)) = ap (combine c own) (sym (next_stripe gs s (in_stripe s gs) refl)) in
      dite (ℕ_discrete (stripe_of g.0) s)
      (λ e. next_stripe (g ∷ gs) s (g.1 ++ in_stripe s gs) (own_stripe s g gs e)
      ∙ (λ i. combine c (before_own g gs s (omega arith) i) (gather_append c f g.1 (in_stripe s gs) i))
      ∙ sym (combine_assoc c before own rest) ∙ ap (λ (z : ℕ). combine c z rest) (combine_comm c before own) ∙ combine_assoc c own before rest ∙ last)
      (λ ne. next_stripe (g ∷ gs) s (in_stripe s gs) (other_stripe s g gs ne) ∙ ap (λ (z : ℕ). combine c z rest) (after_own g gs s (omega arith)) ∙ combine_assoc c own before rest ∙ last)

  none_to : (s : ℕ) → sum_to [] s ≡ vacant c
  none_to zero = refl
  none_to (suc s) = next_stripe [] s [] refl ∙ ap (λ (z : ℕ). combine c z (vacant c)) (none_to s) ∙ vacant_vacant c

  -- all stripes together have all groups
  pub groups_sum : (gs : List Group) → sum_to gs 4 ≡ gather c f (all_of gs)
  groups_sum [] = none_to 4
  groups_sum (g ∷ gs) = after_own g gs 4 (omega arith) ∙ ap (combine c (gather c f g.1)) (groups_sum gs) ∙ sym (gather_append c f g.1 (all_of gs))

counted : (es : List Entry) → gather 0 (λ (e : Entry). 1) es ≡ length es
counted [] = refl
counted (e ∷ es) = let r = counted es in omega arith

-- What groups contribute to a cell

abbrev pub group_at : ℕ → ℕ → Group → ℕ
group_at labels j g = gather (j % 6) (adds labels g.0 j) g.1

abbrev pub groups_at : ℕ → ℕ → List Group → ℕ
groups_at labels j gs = gather (j % 6) (group_at labels j) gs

-- rows of stripes that are one are of one stripe
row_one : (a b n x y : ℕ) → x < n → y < n → a * n + x ≡ b * n + y → a ≡ b
row_one zero zero n x y hx hy e = refl
row_one zero (suc b) n x y hx hy e = absurd (let m = suc-mul b n in omega arith)
row_one (suc a) zero n x y hx hy e = absurd (let m = suc-mul a n in omega arith)
row_one (suc a) (suc b) n x y hx hy e = ap suc (row_one a b n x y hx hy (let m = suc-mul a n in let k = suc-mul b n in omega arith))

own_row : (labels w s l k : ℕ) → stripe_of w ≡ s → (row_at labels w k == s * labels + l) ≡ (k == l)
own_row labels w s l k is =
    let same : stripe_of w * labels ≡ s * labels = ap (λ (z : ℕ). z * labels) is in
    dite (ℕ_discrete k l)
    (λ e. eq-eqb (row_at labels w k) (s * labels + l) (omega arith) ∙ sym (eq-eqb k l e))
    (λ ne. ne_eqb (row_at labels w k) (s * labels + l) (λ h. ne (omega arith)) ∙ sym (ne_eqb k l ne))

module _ (labels w s l c : ℕ) (low : l < labels) where
  abbrev of_row : Entry → ℕ
  of_row e = pick (row_at labels w e.label == s * labels + l) (part c e) (vacant c)

  own_cells : (es : List Entry) → stripe_of w ≡ s → gather c of_row es ≡ column_at c l es
  own_cells [] is = refl
  own_cells (e ∷ es) is = λ i. combine c (pick (own_row labels w s l e.label is i) (part c e) (vacant c)) (own_cells es is i)

  other_cells : (es : List Entry) → AllLabels labels es → stripe_of w ≢ s → gather c of_row es ≡ vacant c
  other_cells [] h ne = refl
  other_cells (e ∷ es) h ne =
      let apart : (row_at labels w e.label == s * labels + l) ≡ false = ne_eqb (row_at labels w e.label) (s * labels + l) (λ k. ne (row_one (stripe_of w) s labels e.label l h.0 low k)) in
      (λ i. combine c (pick (apart i) (part c e) (vacant c)) (other_cells es h.1 ne i)) ∙ vacant_vacant c

group_cell : (labels s l c : ℕ) (g : Group) → l < labels → c < 6 → AllLabels labels g.1 → group_at labels (cell_of labels s l c) g ≡ column_at c l (cond (stripe_of g.0 == s) g.1 [])
group_cell labels s l c g low column h =
    let j : ℕ = cell_of labels s l c in
    let col : j % 6 ≡ c = omega arith in let row : j / 6 ≡ s * labels + l = omega arith in
    let here : group_at labels j g ≡ gather c (of_row labels g.0 s l c low) g.1 = λ i. gather (col i) (λ (e : Entry). pick (row_at labels g.0 e.label == row i) (part (col i) e) (vacant (col i))) g.1 in
    here ∙ dite (ℕ_discrete (stripe_of g.0) s)
    (λ e. own_cells labels g.0 s l c low g.1 e ∙ ap (λ (b : Bool). column_at c l (cond b g.1 [])) (sym (eq-eqb (stripe_of g.0) s e)))
    (λ ne. other_cells labels g.0 s l c low g.1 h ne ∙ ap (λ (b : Bool). column_at c l (cond b g.1 [])) (sym (ne_eqb (stripe_of g.0) s ne)))

groups_cell : (labels s l c : ℕ) (gs : List Group) → l < labels → c < 6 → LabelsIn labels gs → groups_at labels (cell_of labels s l c) gs ≡ column_at c l (in_stripe s gs)
groups_cell labels s l c [] low column h = let col : cell_of labels s l c % 6 ≡ c = omega arith in ap vacant col
groups_cell labels s l c (g ∷ gs) low column h =
    let col : cell_of labels s l c % 6 ≡ c = omega arith in
    (λ i. combine (col i) (group_cell labels s l c g low column h.0 i) (groups_cell labels s l c gs low column h.1 i))
    ∙ sym (gather_append c (λ (e : Entry). pick (e.label == l) (part c e) (vacant c)) (cond (stripe_of g.0 == s) g.1 []) (in_stripe s gs))

groups_long : (gs : List Group) → length (stripes_to (λ (t : ℕ). in_stripe t gs) 4) ≡ length (all_of gs)
groups_long gs = sym (counted (stripes_to (λ (t : ℕ). in_stripe t gs) 4)) ∙ groups_sum 0 (λ (e : Entry). 1) gs ∙ counted (all_of gs)

-- cells to which groups contribute sum their entries, stripe by stripe
pub stripes_of : (labels count : ℕ) (f : ℕ → ℕ) (gs : List Group) → LabelsIn labels gs → SmallIn gs → length (all_of gs) ≤ 4194304 → ((j : ℕ) → j < count → f j ≡ groups_at labels j gs) → SumsOfStripes labels count f
stripes_of labels count f gs in_range small few is =
    let long = groups_long gs in
    record {
      stripes = λ s. in_stripe s gs;
      few = omega arith;
      in_range = λ s. labels_in labels s gs in_range;
      small = λ s. small_in s gs small;
      cells = λ s l c few low column within. is (cell_of labels s l c) within ∙ groups_cell labels s l c gs low column in_range;
    }

-- the report of a table's cells to which groups contribute sums their entries
pub groups_report : (labels m : ℕ) (f : ℕ → ℕ) (gs : List Group) → LabelsIn labels gs → SmallIn gs → length (all_of gs) ≤ 4194304 → ((j : ℕ) → j < table_cells labels → f j ≡ groups_at labels j gs)
    → report_from labels m f ≡ record { interval = m; rows = sum_of labels (all_of gs) }
groups_report labels m f gs in_range small few is =
    let of : ℕ → List Entry = λ s. in_stripe s gs in let long = groups_long gs in
    table_report labels m f of (λ s. small_in s gs small) (omega arith) (λ t l c lt low column. is (cell_of labels t l c) (cell_low labels t l c lt low column) ∙ groups_cell labels t l c gs low column in_range)
    ∙ ap (λ (rows : List Row). record { interval = m; rows = rows })
    (same_columns labels (stripes_to of 4) (all_of gs) (small_to of 4 (λ s. small_in s gs small)) (small_all gs small) (λ l c. groups_sum c (λ (e : Entry). pick (e.label == l) (part c e) (vacant c)) gs))
