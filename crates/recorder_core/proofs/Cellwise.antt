-- The rows of a report, label by label and stripe by stripe, from cells that are taken or read one by one.
use Rattle.std.proofs.Common.{◌≡◌, ℕ, zero, suc, ◌+◌, ◌*◌, ◌<◌, ◌≤◌, ◌==◌, Bool, true, false, List, [], ◌∷◌, ◌++◌, length, get_or, take, set, sym, refl, ap, ◌∙◌, subst, arith, add-zero, add-one, ne_eqb, eq-eqb, get_or-set_same, get_or-set_other, length-append}
use mathlib.Core.Logic.{dite}
use native.Mathlib.Decide.{ℕ_discrete}
use Rattle.std.proofs.Math.Nat.{suc-mul}
use Rattle.std.proofs.lemmas.Nat.{mul-le}
use Rattle.std.proofs.lemmas.List.{get_or_append_left, get_or-append-add}
use Rattle.interval_tables.specs.declared.row.Row.{Row}
use Rattle.interval_tables.specs.declared.report.Report.{Report}
use Rattle.interval_tables.specs.Rows.{no_samples, sum_of, merged_rows, merged, row_from, rows_folded, IsInBounds}
use Rattle.interval_tables.proofs.Folding.{merged_more, merged_none, length-merged_rows}
use Rattle.phaser_core.specs.declared.view.ReporterStage.TheVariants.{Harvest}
use Rattle.phaser_core.specs.declared.view.ReporterView.{ReporterView}
use Rattle.phaser_core.specs.Cells.{rows_from, table_cells, cell_of, stripe_rows, merged_to, report_from, report_of}
use Rattle.phaser_core.specs.Shares.{SumsOfStripes}
use Rattle.phaser_core.specs.CoreMoves.{gathered, gathered_if, holding}
use Rattle.phaser_core.proofs.CellSteps.{row_same, rows_same, cell_low}
use Rattle.phaser_core.proofs.Stripes.{merges_in_bounds, merged_report}
use Rattle.phaser_words.specs.RecorderKinds.{HasCell, taken_in}
use Rattle.recorder_core.specs.Stands.{closed_as}
use Rattle.recorder_core.specs.Folds.{HasTaken}

-- Rows

length-rows_from : (upto : ℕ) (f : ℕ → ℕ → ℕ) → length (rows_from upto f) ≡ upto
length-rows_from zero f = refl
length-rows_from (suc l) f = let a = length-append (rows_from l f) (row_from (f l) ∷ []) in let r = length-rows_from l f in omega arith

-- six cells of the next label are folded in
pub cells_folded : (labels s l : ℕ) (f : ℕ → ℕ) (more : List ℕ) (rows : List Row) → l < length (merged_to labels f s) → ((c : ℕ) → c < 6 → get_or more c 0 ≡ f (cell_of labels s l c)) → rows ≡ merged_rows (merged_to labels f s) (stripe_rows labels f s l)
    → rows_folded rows l (λ c. get_or more c 0) ≡ merged_rows (merged_to labels f s) (stripe_rows labels f s (l + 1))
cells_folded labels s l f more rows low are is =
    let before : List Row = merged_to labels f s in let part : List Row = stripe_rows labels f s l in
    let row : row_from (λ c. get_or more c 0) ≡ row_from (λ c. f (cell_of labels s l c)) = row_same (λ c. get_or more c 0) (λ c. f (cell_of labels s l c)) are in
    (λ i. set (is i) l (merged (get_or (is i) l no_samples) (row i)))
    ∙ merged_more before part (row_from (λ c. f (cell_of labels s l c))) l (length-rows_from l (λ k c. f (cell_of labels s k c))) low
    ∙ ap (λ (k : ℕ). merged_rows before (stripe_rows labels f s k)) (sym (add-one l))

pub length-merged_to : (labels : ℕ) (f : ℕ → ℕ) (s n : ℕ) (rows : List Row) → rows ≡ merged_rows (merged_to labels f s) (stripe_rows labels f s n) → length (merged_to labels f s) ≡ length rows
length-merged_to labels f s n rows is = sym (ap (λ (l : List Row). length l) is ∙ length-merged_rows (merged_to labels f s) (stripe_rows labels f s n))

-- what is folded of cells stays with more cells after them
stripe_rows_more : (labels s upto : ℕ) (cells more : List ℕ) → upto ≤ labels → 6 * (s * labels + upto) ≤ length cells → stripe_rows labels (λ j. get_or cells j 0) s upto ≡ stripe_rows labels (λ j. get_or (cells ++ more) j 0) s upto
stripe_rows_more labels s upto cells more low within =
    rows_same upto (λ l c. get_or cells (cell_of labels s l c) 0) (λ l c. get_or (cells ++ more) (cell_of labels s l c) 0) (λ l c under column. sym (get_or_append_left cells more 0 (cell_of labels s l c) (omega arith)))

merged_to_more : (labels s : ℕ) (cells more : List ℕ) → 6 * (s * labels) ≤ length cells → merged_to labels (λ j. get_or cells j 0) s ≡ merged_to labels (λ j. get_or (cells ++ more) j 0) s
merged_to_more labels zero cells more within = refl
merged_to_more labels (suc s) cells more within =
    let next = suc-mul s labels in
    λ i. merged_rows (merged_to_more labels s cells more (omega arith) i) (stripe_rows_more labels s labels cells more (omega arith) (omega arith) i)

-- six cells that are taken after all before are folded in
pub taken_folded : (labels s l : ℕ) (cells more : List ℕ) (rows : List Row) → l < labels → length rows ≡ labels → length cells ≡ 6 * (s * labels + l) → length more ≡ 6
    → rows ≡ merged_rows (merged_to labels (λ j. get_or cells j 0) s) (stripe_rows labels (λ j. get_or cells j 0) s l)
    → rows_folded rows l (λ c. get_or more c 0) ≡ merged_rows (merged_to labels (λ j. get_or (cells ++ more) j 0) s) (stripe_rows labels (λ j. get_or (cells ++ more) j 0) s (l + 1))
taken_folded labels s l cells more rows low long count six is =
    let f : ℕ → ℕ = λ j. get_or (cells ++ more) j 0 in
    let now : rows ≡ merged_rows (merged_to labels f s) (stripe_rows labels f s l) = is ∙ (λ i. merged_rows (merged_to_more labels s cells more (omega arith) i) (stripe_rows_more labels s l cells more (omega arith) (omega arith) i)) in
    let wide = length-merged_to labels f s l rows now in
    cells_folded labels s l f more rows (omega arith)
    (λ c column. sym (get_or-append-add cells more c 0) ∙ ap (λ (j : ℕ). get_or (cells ++ more) j 0) (let at : length cells + c ≡ cell_of labels s l c = omega arith in at)) now

-- the rows are in bounds after the fold
pub fold_low : (labels count s l : ℕ) (f : ℕ → ℕ) (rows : List Row) → SumsOfStripes labels count f → s < 4 → l < labels → 6 * (s * labels + l) + 6 ≤ count → rows ≡ merged_rows (merged_to labels f s) (stripe_rows labels f s (l + 1)) → IsInBounds rows
fold_low labels count s l f rows k few low within is = subst IsInBounds (sym is) (merges_in_bounds labels count f k s (l + 1) few (omega arith) (omega arith))

-- a whole stripe is one stripe more
pub stripe_whole : (labels s l : ℕ) (f : ℕ → ℕ) (rows : List Row) → rows ≡ merged_rows (merged_to labels f s) (stripe_rows labels f s l) → l ≡ labels → rows ≡ merged_to labels f (s + 1)
stripe_whole labels s l f rows is all = is ∙ ap (λ (k : ℕ). merged_rows (merged_to labels f s) (stripe_rows labels f s k)) all ∙ ap (merged_to labels f) (sym (add-one s))

-- before the first label
pub stripe_none : (labels s : ℕ) (f : ℕ → ℕ) (rows : List Row) → rows ≡ merged_to labels f s → rows ≡ merged_rows (merged_to labels f s) (stripe_rows labels f s 0)
stripe_none labels s f rows is = is ∙ sym (merged_none (merged_to labels f s))

-- The reporter while it takes

no_more : (l : List ℕ) → l ++ [] ≡ l
no_more [] = refl
no_more (x ∷ xs) = ap (λ (m : List ℕ). x ∷ m) (no_more xs)

pub holding_is : (r : ReporterView) (l : List ℕ) (j : ℕ) → j < table_cells r.labels → gathered r l j ≡ holding r l j
holding_is r l j low = ap (λ (b : Bool). gathered_if b r l j) (ne_eqb j (table_cells r.labels) (λ e. omega arith))

-- before the next cell is taken nothing has changed
pub gathered_none : (r : ReporterView) (j : ℕ) (l : List ℕ) → r.closing ≡ Harvest j → l ≡ r.cells → j < table_cells r.labels → gathered r l j ≡ r
gathered_none r j l is cells low =
    holding_is r l j low ∙ (λ i. record r { closing = sym is i; cells = cells i })

-- none of the next cells is taken yet
pub nothing_taken : (r : ReporterView) (j : ℕ) → r.closing ≡ Harvest j → j < table_cells r.labels → r ≡ gathered r (r.cells ++ []) (j + 0)
nothing_taken r j is low = sym (gathered_none r j r.cells is refl low) ∙ (λ i. gathered r (sym (no_more r.cells) i) (sym (add-zero j) i))

regather_if : (b : Bool) (r : ReporterView) (l : List ℕ) (j : ℕ) (l' : List ℕ) (j' : ℕ) → gathered_if b (holding r l j) l' j' ≡ gathered_if b r l' j'
regather_if true r l j l' j' = refl
regather_if false r l j l' j' = refl

-- what is taken later is taken
pub regather : (r : ReporterView) (l : List ℕ) (j : ℕ) (l' : List ℕ) (j' : ℕ) → gathered (holding r l j) l' j' ≡ gathered r l' j'
regather r l j l' j' = regather_if (j' == table_cells r.labels) r l j l' j'

-- the next cell
pub gathered_next : (r q : ReporterView) (l : List ℕ) (j x : ℕ) → q ≡ gathered r l j → j < table_cells r.labels → gathered q (q.cells ++ x ∷ []) (taken_in q.closing + 1) ≡ gathered r (l ++ x ∷ []) (j + 1)
gathered_next r q l j x is low = ap (λ (z : ReporterView). gathered z (z.cells ++ x ∷ []) (taken_in z.closing + 1)) (is ∙ holding_is r l j low) ∙ regather r l j (l ++ x ∷ []) (j + 1)

-- the next row
pub gathered_row : (r q : ReporterView) (l more : List ℕ) (j : ℕ) → q ≡ gathered r l j → j < table_cells r.labels → gathered q (q.cells ++ more) (j + 6) ≡ gathered r (l ++ more) (j + 6)
gathered_row r q l more j is low = ap (λ (z : ReporterView). gathered z (z.cells ++ more) (j + 6)) (is ∙ holding_is r l j low) ∙ regather r l j (l ++ more) (j + 6)

pub harvests_at : (r q : ReporterView) (l : List ℕ) (j : ℕ) → q ≡ gathered r l j → j < table_cells r.labels → q.closing ≡ Harvest j
harvests_at r q l j is low = ap (λ (z : ReporterView). z.closing) (is ∙ holding_is r l j low)

pub cell_left : (labels j : ℕ) (q : ReporterView) → q.closing ≡ Harvest j → j < table_cells labels → HasCell labels q.closing
cell_left labels j q is low = subst (HasCell labels) (sym is) low

pub holds_cells : (r q : ReporterView) (l : List ℕ) (j : ℕ) → q ≡ gathered r l j → j < table_cells r.labels → q.cells ≡ l
holds_cells r q l j is low = ap (λ (z : ReporterView). z.cells) (is ∙ holding_is r l j low)

-- what the taken cells sum, of one more
pub sums_next : (r q : ReporterView) (l : List ℕ) (j x : ℕ) → q ≡ gathered r l j → j < table_cells r.labels → SumsOfStripes q.labels (length (q.cells ++ x ∷ [])) (λ i. get_or (q.cells ++ x ∷ []) i 0) → SumsOfStripes r.labels (length (l ++ x ∷ [])) (λ i. get_or (l ++ x ∷ []) i 0)
sums_next r q l j x is low h = subst (λ (z : ReporterView). SumsOfStripes z.labels (length (z.cells ++ x ∷ [])) (λ i. get_or (z.cells ++ x ∷ []) i 0)) (is ∙ holding_is r l j low) h

-- Stripes

-- a stripe that is not the last one past begins before the end of the table
pub stripe_below : (labels s : ℕ) → s < 4 → 0 < labels → 6 * (s * labels) < 6 * (4 * labels)
stripe_below labels s few some = let most = mul-le s labels 3 labels (omega arith) (omega arith) in omega arith

-- the first labels of a stripe are taken, after all stripes before, and folded
pub record StripeTaken (labels s l : ℕ) (r q : ReporterView) (rows : List Row) : Type 0 where
  pub cells : List ℕ
  pub count : length cells ≡ 6 * (s * labels + l)
  pub taken : q ≡ gathered r cells (6 * (s * labels + l))
  pub folded : rows ≡ merged_rows (merged_to labels (λ j. get_or cells j 0) s) (stripe_rows labels (λ j. get_or cells j 0) s l)
  pub sums : 0 < l → SumsOfStripes labels (length cells) (λ j. get_or cells j 0)

pub stripe_begins : (labels s : ℕ) (r : ReporterView) (rows : List Row) → s < 4 → 0 < labels → r.labels ≡ labels → r.closing ≡ Harvest (6 * (s * labels)) → length r.cells ≡ 6 * (s * labels) → rows ≡ merged_to labels (λ j. get_or r.cells j 0) s → StripeTaken labels s 0 r r rows
stripe_begins labels s r rows few some is harvest count folded =
    let low : 6 * (s * labels) < table_cells r.labels = let b = stripe_below labels s few some in omega arith in
    let at : 6 * (s * labels) ≡ 6 * (s * labels + 0) = omega arith in
    record {
      cells = r.cells;
      count = count ∙ at;
      taken = sym (gathered_none r (6 * (s * labels)) r.cells harvest refl low) ∙ ap (gathered r r.cells) at;
      folded = stripe_none labels s (λ j. get_or r.cells j 0) rows folded;
      sums = λ h. absurd (omega arith);
    }

pub stripe_next : (labels s l : ℕ) (r q t : ReporterView) (rows : List Row) (more : List ℕ) → s < 4 → l < labels → r.labels ≡ labels → length rows ≡ labels → length more ≡ 6 → StripeTaken labels s l r q rows
    → t ≡ gathered q (q.cells ++ more) (6 * (s * labels + l) + 6) → SumsOfStripes q.labels (length (q.cells ++ more)) (λ j. get_or (q.cells ++ more) j 0) → StripeTaken labels s (l + 1) r t (rows_folded rows l (λ c. get_or more c 0))
stripe_next labels s l r q t rows more few low is long six h taken sums =
    let below : 6 * (s * labels + l) < table_cells r.labels = let b = cell_low labels s l 0 few low (omega arith) in omega arith in
    let count = h.count in let both = length-append h.cells more in
    let next : 6 * (s * labels + l) + 6 ≡ 6 * (s * labels + (l + 1)) = omega arith in
    record {
      cells = h.cells ++ more;
      count = omega arith;
      taken = taken ∙ gathered_row r q h.cells more (6 * (s * labels + l)) h.taken below ∙ ap (gathered r (h.cells ++ more)) next;
      folded = taken_folded labels s l h.cells more rows low long h.count six h.folded;
      sums = λ _. subst (λ (z : ℕ × List ℕ). SumsOfStripes z.0 (length (z.1 ++ more)) (λ j. get_or (z.1 ++ more) j 0)) (λ i. ((ap (λ (z : ReporterView). z.labels) (h.taken ∙ holding_is r h.cells (6 * (s * labels + l)) below) ∙ is) i, holds_cells r q h.cells (6 * (s * labels + l)) h.taken below i)) sums;
    }

-- the report stays in bounds
pub stripe_room : (labels s l : ℕ) (r t : ReporterView) (rows : List Row) → s < 4 → l < labels → StripeTaken labels s (l + 1) r t rows → IsInBounds rows
stripe_room labels s l r t rows few low h = fold_low labels (length h.cells) s l (λ j. get_or h.cells j 0) rows (h.sums (omega arith)) few low (let count = h.count in omega arith) h.folded

pub stripe_ends : (labels s l : ℕ) (r t : ReporterView) (rows : List Row) → 0 < labels → l ≡ labels → StripeTaken labels s l r t rows → HasTaken labels (s + 1) r t rows
stripe_ends labels s l r t rows some all h =
    let more = suc-mul s labels in let next = add-one s in
    let same : (s + 1) * labels ≡ suc s * labels = ap (λ (k : ℕ). k * labels) next in
    let at : 6 * (s * labels + l) ≡ 6 * ((s + 1) * labels) = omega arith in
    record { cells = h.cells; count = h.count ∙ at; taken = h.taken ∙ ap (gathered r h.cells) at; folded = stripe_whole labels s l (λ j. get_or h.cells j 0) rows h.folded all; sums = h.sums (omega arith) }

-- before the first stripe
pub none_taken : (labels : ℕ) (r : ReporterView) (rows : List Row) → 0 < labels → r.labels ≡ labels → r.closing ≡ Harvest 0 → r.cells ≡ [] → rows ≡ sum_of labels [] → HasTaken labels 0 r r rows
none_taken labels r rows some is harvest none empty =
    let low : 0 < table_cells r.labels = omega arith in let at : 0 ≡ 6 * (0 * labels) = omega arith in
    record {
      cells = [];
      count = at;
      taken = sym (gathered_none r 0 [] harvest (sym none) low) ∙ ap (gathered r []) at;
      folded = empty;
      sums = record { stripes = λ s. []; few = omega arith; in_range = λ s. tt; small = λ s. tt; cells = λ s l c few low column within. absurd (omega arith) };
    }

-- what a later stripe is taken from
pub taken_on : (labels s k : ℕ) (r q t : ReporterView) (rows rows' : List Row) → 6 * (s * labels) < table_cells r.labels → HasTaken labels s r q rows → HasTaken labels k q t rows' → HasTaken labels k r t rows'
taken_on labels s k r q t rows rows' low h next =
    let j : ℕ = 6 * (k * labels) in
    record {
      cells = next.cells;
      count = next.count;
      taken = next.taken ∙ ap (λ (z : ReporterView). gathered z next.cells j) (h.taken ∙ holding_is r h.cells (6 * (s * labels)) low) ∙ regather r h.cells (6 * (s * labels)) next.cells j;
      folded = next.folded;
      sums = next.sums;
    }

-- all cells of all stripes: the interval is closed with the report that they fold to
pub gathered_all : (labels : ℕ) (r q : ReporterView) (report : Report) → HasTaken labels 4 r q report.rows → r.labels ≡ labels → report.interval ≡ r.interval → q ≡ closed_as r report
gathered_all labels r q report t is interval =
    let all : 6 * (4 * labels) ≡ table_cells r.labels = omega arith in
    let made : report_of r.labels r.interval t.cells ≡ report =
    ap (λ (l : ℕ). report_of l r.interval t.cells) is ∙ merged_report labels r.interval (length t.cells) (λ j. get_or t.cells j 0) t.sums (let count = t.count in omega arith) ∙ (λ i. record { interval = sym interval i; rows = sym t.folded i }) in
    t.taken ∙ ap (λ (b : Bool). gathered_if b r t.cells (6 * (4 * labels))) (eq-eqb (6 * (4 * labels)) (table_cells r.labels) all) ∙ ap (closed_as r) made

-- cells read one by one
pub reads_more : (cells : List ℕ) (g : ℕ → ℕ) (n x : ℕ) → n < length cells → ((c : ℕ) → c < n → get_or cells c 0 ≡ g c) → x ≡ g n → (c : ℕ) → c < n + 1 → get_or (set cells n x) c 0 ≡ g c
reads_more cells g n x low before is c under = dite (ℕ_discrete c n)
    (λ e. ap (λ (i : ℕ). get_or (set cells n x) i 0) e ∙ get_or-set_same cells n x 0 low ∙ is ∙ ap g (sym e))
    (λ ne. get_or-set_other cells n c x 0 ne ∙ before c (omega arith))
