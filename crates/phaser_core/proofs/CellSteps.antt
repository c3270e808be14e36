-- What holds of the active word, the cells and the reports is kept by each step.
use Rattle.std.proofs.Common.{◌≡◌, ◌≢◌, ℕ, zero, suc, ◌+◌, ◌*◌, ◌/◌, ◌%◌, ◌<◌, ◌≤◌, ◌==◌, not, Bool, true, false, List, [], ◌∷◌, ◌++◌, length, get_or, set, sym, refl, ap, ◌∙◌, subst, ◌⊎◌, ⊎_elim, inl, inr, arith, get_or-set_same, get_or-set_other, length-append, eq-eqb, ne_eqb, add-zero, add-one, one-mul, true≢false, cond}
use mathlib.Core.Logic.{dite}
use mathlib.Core.Option.{some}
use native.Mathlib.Decide.{ℕ_discrete}
use lib.ListN.{get_elem?}
use Rattle.std.proofs.lemmas.List.{set-get_or}
use Rattle.std.proofs.lemmas.Bool.{eqb-true}
use Rattle.phaser_core.specs.declared.view.Numbers.{Numbers}
use Rattle.jm_base.specs.declared.types.Entry.{Entry}
use Rattle.phaser_core.specs.declared.view.Stage.{Stage}
use Rattle.phaser_core.specs.declared.view.Stage.TheVariants.{Out, In, On}
use Rattle.phaser_core.specs.declared.view.WriterView.{WriterView}
use Rattle.phaser_core.specs.declared.view.Joined.{Joined}
use Rattle.phaser_core.specs.declared.view.ReporterStage.{ReporterStage}
use Rattle.phaser_core.specs.declared.view.ReporterStage.TheVariants.{Idle, Swapped, Cleared, Waiting, Harvest}
use Rattle.phaser_core.specs.declared.view.ReporterView.{ReporterView}
use Rattle.phaser_core.specs.declared.view.View.{View}
use Rattle.phaser_core.specs.declared.view.View.TheVariants.{Reporter, Writer, Gone}
use Rattle.jm_base.specs.SumTotals.{one_if, total}
use Rattle.interval_tables.specs.Rows.{no_samples, row_cells, row_from}
use Rattle.std.proofs.Math.Nat.{add-mul}
use Rattle.std.proofs.lemmas.Nat.{mul-le}
use Rattle.interval_tables.specs.declared.row.Row.{Row}
use Rattle.phaser_core.proofs.Halves.{Phased, TimelyStage, AllTimely, Timely, IsLive, Counted, worth_report}
use Rattle.phaser_core.specs.Cells.{is_odd, end_at, initial, combine, vacant, gather, folded, pick, part, adds, skips, column, sums, done, place, cell_at, table_cells, no_report, report_from, report_of, rows_from, folded_to, row_folded, cell_of, stripe_of, row_at, rows_in, word_count}
use Rattle.phaser_core.specs.Invariant.{InsideBefore, MayCount, AllSmall, InTable}
use Rattle.phaser_core.specs.CoreMoves.{marked, reporter_raised, with_seen, closed_with, holding, gathered, gathered_if}
use Rattle.phaser_core.specs.Shares.{AllUpTo, AllFrom, Rising}
use Rattle.phaser_core.specs.Views.{stage_inside, inside, busy, uses, at_stage, turned, pending, current, other, at_closing, active, worth, entry_at, stage_at, value, taken_count, list_at, joined_at}
use Rattle.phaser_core.proofs.PhaseSteps.{each_set, bound, odd_next, end_low, end_some, same_self, which}
use Rattle.phaser_core.proofs.Folds.{combine_assoc, combine_swap, vacant_vacant, combine_sum, vacant_sum, folded_is, gather_more, gather_same, gather_snoc, gather_unit, gather_cap, gather_sum}
use Rattle.jm_base.proofs.Totals.{total_at, total_le, total_times}

-- Words

flat : (a b m j j' : ℕ) → a < 2 → b < 2 → j < m → j' < m → a * m + j ≡ b * m + j' → (a ≡ b) × (j ≡ j')
flat zero zero m j j' la lb lj lj' e = (refl, omega arith)
flat zero (suc zero) m j j' la lb lj lj' e = absurd (let o = one-mul m in omega arith)
flat (suc zero) zero m j j' la lb lj lj' e = absurd (let o = one-mul m in omega arith)
flat (suc zero) (suc zero) m j j' la lb lj lj' e = (refl, omega arith)
flat zero (suc (suc b)) m j j' la lb lj lj' e = absurd (omega arith)
flat (suc (suc a)) b m j j' la lb lj lj' e = absurd (omega arith)
flat (suc zero) (suc (suc b)) m j j' la lb lj lj' e = absurd (omega arith)

-- two cells of neighbouring intervals in one word are one cell
place_one : (n : Numbers) (i i' j j' : ℕ) → i ≤ i' + 1 → i' ≤ i + 1 → j < table_cells n.labels → j' < table_cells n.labels → cell_at n.labels i j ≡ cell_at n.labels i' j' → (i ≡ i') × (j ≡ j')
place_one n i i' j j' near near' low low' e = let f = flat (i % 2) (i' % 2) (table_cells n.labels) j j' (omega arith) (omega arith) low low' (omega arith) in let a = f.0 in let b = f.1 in (omega arith, omega arith)

place_apart : (n : Numbers) (i i' j j' : ℕ) → i ≤ i' + 1 → i' ≤ i + 1 → j < table_cells n.labels → j' < table_cells n.labels → ((i ≡ i') × (j ≡ j') → ⊥) → cell_at n.labels i j ≢ cell_at n.labels i' j'
place_apart n i i' j j' near near' low low' ne e = ne (place_one n i i' j j' near near' low low' e)

twice_low : (a m j : ℕ) → a < 2 → j < m → a * m + j < 2 * m
twice_low zero m j la lj = omega arith
twice_low (suc zero) m j la lj = let o = one-mul m in omega arith
twice_low (suc (suc a)) m j la lj = absurd (omega arith)

pub place_in : (n : Numbers) (i j : ℕ) → j < table_cells n.labels → cell_at n.labels i j < word_count n.labels
place_in n i j low = let t = twice_low (i % 2) (table_cells n.labels) j (omega arith) low in omega arith

same_place : (n : Numbers) (i j : ℕ) → cell_at n.labels (i + 2) j ≡ cell_at n.labels i j
same_place n i j = ap (λ (r : ℕ). 5 + (r * (table_cells n.labels) + j)) (omega arith)

-- the word that the layout gives to a column of a writer's label is a cell of the table, in word order
pub place_cell : (labels m w l c : ℕ) → place labels (m % 2) w l c ≡ cell_at labels m (6 * row_at labels w l + c)
place_cell labels m w l c = let both = add-mul (m % 2 * 4) (stripe_of w) labels in omega arith

-- a label that is in range has its row in the table
stripe_low : (s labels l : ℕ) → s < 4 → l < labels → s * labels + l < 4 * labels
stripe_low s labels l few low = let most = mul-le s labels 3 labels (omega arith) (omega arith) in omega arith

pub row_in : (labels w l : ℕ) → l < labels → row_at labels w l < rows_in labels
row_in labels w l h = stripe_low (stripe_of w) labels l (omega arith) h

-- a cell of a stripe is one of the table's
pub cell_low : (labels s l c : ℕ) → s < 4 → l < labels → c < 6 → cell_of labels s l c < table_cells labels
cell_low labels s l c few low column = let r = stripe_low s labels l few low in omega arith

pub cell_in : (labels w l c : ℕ) → l < labels → c < 6 → 6 * row_at labels w l + c < table_cells labels
cell_in labels w l c h k = let r = row_in labels w l h in omega arith

-- a low word that changes leaves the cells
cell_else : (n : Numbers) (ws : List ℕ) (at x i j : ℕ) → at < 5 → get_or (set ws at x) (cell_at n.labels i j) 0 ≡ get_or ws (cell_at n.labels i j) 0
cell_else n ws at x i j low = get_or-set_other ws at (cell_at n.labels i j) x 0 (λ h. omega arith)

-- Lists

up_more : (a b : ℕ) (l : List (ℕ × Entry)) → AllUpTo a l → a ≤ b → AllUpTo b l
up_more a b [] h le = tt
up_more a b (x ∷ xs) h le = (omega arith, up_more a b xs h.1 le)

up_snoc : (a : ℕ) (l : List (ℕ × Entry)) (x : ℕ × Entry) → AllUpTo a l → x.0 ≤ a → AllUpTo a (l ++ x ∷ [])
up_snoc a [] x h le = (le, tt)
up_snoc a (y ∷ ys) x h le = (h.0, up_snoc a ys x h.1 le)

from_snoc : (a : ℕ) (l : List (ℕ × Entry)) (x : ℕ × Entry) → AllFrom a l → a ≤ x.0 → AllFrom a (l ++ x ∷ [])
from_snoc a [] x h le = (le, tt)
from_snoc a (y ∷ ys) x h le = (h.0, from_snoc a ys x h.1 le)

rising_snoc : (l : List (ℕ × Entry)) (x : ℕ × Entry) → Rising l → AllUpTo x.0 l → Rising (l ++ x ∷ [])
rising_snoc [] x h le = (tt, tt)
rising_snoc (y ∷ ys) x h le = (from_snoc y.0 ys x h.0 le.0, rising_snoc ys x h.1 le.1)

small_snoc : (l : List (ℕ × Entry)) (x : ℕ × Entry) → AllSmall l → x.1.elapsed < 4294967296 → x.1.bytes < 4294967296 → AllSmall (l ++ x ∷ [])
small_snoc [] x h a b = (a, b, tt)
small_snoc (y ∷ ys) x h a b = (h.0, h.1, small_snoc ys x h.2 a b)

timely_more : (a b : ℕ) (l : List Joined) → AllTimely a l → a ≤ b → AllTimely b l
timely_more a b [] h le = tt
timely_more a b (x ∷ xs) h le = ((h.0.0, up_more a b x.list h.0.1 le, h.0.2), timely_more a b xs h.1 le)

pub timely_snoc : (a : ℕ) (l : List Joined) (x : Joined) → AllTimely a l → Rising x.list × AllUpTo a x.list × AllSmall x.list → AllTimely a (l ++ x ∷ [])
timely_snoc a [] x h y = (y, tt)
timely_snoc a (z ∷ zs) x h y = (h.0, timely_snoc a zs x h.1 y)

pub empty_list : {A : Type 0} (l : List A) → length l ≡ 0 → l ≡ []
empty_list [] h = refl
empty_list (x ∷ xs) h = absurd (omega arith)

pub last_is : {A : Type 0} (l : List A) (x d : A) (i : ℕ) → length l ≡ i → get_or (l ++ x ∷ []) i d ≡ x
last_is [] x d zero e = refl
last_is [] x d (suc i) e = absurd (omega arith)
last_is (y ∷ ys) x d zero e = absurd (omega arith)
last_is (y ∷ ys) x d (suc i) e = last_is ys x d i (omega arith)

pub before_last : {A : Type 0} (l : List A) (x d : A) (i : ℕ) → i < length l → get_or (l ++ x ∷ []) i d ≡ get_or l i d
before_last [] x d i h = absurd (omega arith)
before_last (y ∷ ys) x d zero h = refl
before_last (y ∷ ys) x d (suc i) h = before_last ys x d i (omega arith)

past : {A : Type 0} (l : List A) (d : A) (i : ℕ) → length l ≤ i → get_or l i d ≡ d
past [] d i h = refl
past (y ∷ ys) d zero h = absurd (omega arith)
past (y ∷ ys) d (suc i) h = past ys d i (omega arith)

snoc_else : {A : Type 0} (l : List A) (x d : A) (i : ℕ) → i ≢ length l → get_or (l ++ x ∷ []) i d ≡ get_or l i d
snoc_else [] x d zero ne = absurd (ne refl)
snoc_else [] x d (suc i) ne = refl
snoc_else (y ∷ ys) x d zero ne = refl
snoc_else (y ∷ ys) x d (suc i) ne = snoc_else ys x d i (λ e. ne (omega arith))

-- Values

pick_unit : (b : Bool) (u : ℕ) → pick b u u ≡ u
pick_unit true u = refl
pick_unit false u = refl

pub column_low : (f : Bool) (d : ℕ) → d < 5 + one_if f → skips f d < 6
column_low true d h = omega arith
column_low false zero h = omega arith
column_low false (suc d) h = omega arith

-- what is done folds with the vacant to itself
done_cap : (lb nr : ℕ) (f : Bool) (j : ℕ) (e : Entry) (d : ℕ) → combine (j % 6) (done lb nr f j e d) (vacant (j % 6)) ≡ done lb nr f j e d
done_cap lb nr f j e zero = vacant_vacant (j % 6)
done_cap lb nr f j e (suc d) = let x : ℕ = pick (row_at lb nr e.label == j / 6) (pick (skips f d == j % 6) (part (j % 6) e) (vacant (j % 6))) (vacant (j % 6)) in
    combine_swap (j % 6) (done lb nr f j e d) x (vacant (j % 6)) ∙ ap (λ (z : ℕ). combine (j % 6) z x) (done_cap lb nr f j e d)

-- one step more folds its part into its own cell, and nothing into another
done_here : (lb nr : ℕ) (e : Entry) (d j : ℕ) → d < sums e → j ≡ 6 * row_at lb nr e.label + column e d → done lb nr (not e.ok) j e (d + 1) ≡ combine (j % 6) (done lb nr (not e.ok) j e d) (part (column e d) e)
done_here lb nr e d j low is =
    let c : ℕ = column e d in let lc = column_low (not e.ok) d low in
    let own : j / 6 ≡ row_at lb nr e.label = omega arith in let col : j % 6 ≡ c = omega arith in
    let one : pick (row_at lb nr e.label == j / 6) (pick (c == j % 6) (part (j % 6) e) (vacant (j % 6))) (vacant (j % 6)) ≡ part c e =
    ap (λ (b : Bool). pick b (pick (c == j % 6) (part (j % 6) e) (vacant (j % 6))) (vacant (j % 6))) (eq-eqb (row_at lb nr e.label) (j / 6) (sym own)) ∙ ap (λ (b : Bool). pick b (part (j % 6) e) (vacant (j % 6))) (eq-eqb c (j % 6) (sym col)) ∙ ap (λ (m : ℕ). part m e) col in
    ap (λ (m : ℕ). done lb nr (not e.ok) j e m) (add-one d) ∙ ap (λ (m : ℕ). combine (j % 6) (done lb nr (not e.ok) j e d) m) one

done_else : (lb nr : ℕ) (e : Entry) (d j : ℕ) → d < sums e → j ≢ 6 * row_at lb nr e.label + column e d → done lb nr (not e.ok) j e (d + 1) ≡ done lb nr (not e.ok) j e d
done_else lb nr e d j low ne =
    let c : ℕ = column e d in
    let none : pick (row_at lb nr e.label == j / 6) (pick (c == j % 6) (part (j % 6) e) (vacant (j % 6))) (vacant (j % 6)) ≡ vacant (j % 6) = dite (ℕ_discrete (row_at lb nr e.label) (j / 6))
    (λ y. dite (ℕ_discrete c (j % 6)) (λ z. absurd (ne (omega arith)))
    (λ z. ap (λ (b : Bool). pick (row_at lb nr e.label == j / 6) (pick b (part (j % 6) e) (vacant (j % 6))) (vacant (j % 6))) (ne_eqb c (j % 6) z) ∙ pick_unit (row_at lb nr e.label == j / 6) (vacant (j % 6))))
    (λ y. ap (λ (b : Bool). pick b (pick (c == j % 6) (part (j % 6) e) (vacant (j % 6))) (vacant (j % 6))) (ne_eqb (row_at lb nr e.label) (j / 6) y)) in
    ap (λ (m : ℕ). done lb nr (not e.ok) j e m) (add-one d) ∙ ap (λ (m : ℕ). combine (j % 6) (done lb nr (not e.ok) j e d) m) none ∙ done_cap lb nr (not e.ok) j e d

-- what the steps of a failed entry, and of another, fold to
abbrev at_column : ℕ → ℕ → ℕ → ℕ
at_column c k x = pick (k == c) x (vacant c)

six : (c x : ℕ) → c < 6 → x ≤ 18446744073709551615 → combine c (combine c (combine c (combine c (combine c (combine c (vacant c) (at_column c 0 x)) (at_column c 1 x)) (at_column c 2 x)) (at_column c 3 x)) (at_column c 4 x)) (at_column c 5 x) ≡ x
six zero x h s = omega arith
six (suc zero) x h s = omega arith
six (suc (suc zero)) x h s = omega arith
six (suc (suc (suc zero))) x h s = omega arith
six (suc (suc (suc (suc zero)))) x h s = omega arith
six (suc (suc (suc (suc (suc zero))))) x h s = omega arith
six (suc (suc (suc (suc (suc (suc c)))))) x h s = absurd (omega arith)

five : (c x : ℕ) → c < 6 → x ≤ 18446744073709551615 → (c ≡ 1 → x ≡ 0) → combine c (combine c (combine c (combine c (combine c (vacant c) (at_column c 0 x)) (at_column c 2 x)) (at_column c 3 x)) (at_column c 4 x)) (at_column c 5 x) ≡ x
five zero x h s z = omega arith
five (suc zero) x h s z = sym (z refl)
five (suc (suc zero)) x h s z = omega arith
five (suc (suc (suc zero))) x h s z = omega arith
five (suc (suc (suc (suc zero)))) x h s z = omega arith
five (suc (suc (suc (suc (suc zero))))) x h s z = omega arith
five (suc (suc (suc (suc (suc (suc c)))))) x h s z = absurd (omega arith)

vacant_six : (c : ℕ) → combine c (combine c (combine c (combine c (combine c (combine c (vacant c) (vacant c)) (vacant c)) (vacant c)) (vacant c)) (vacant c)) (vacant c) ≡ vacant c
vacant_six c = let u = vacant_vacant c in let f : ℕ → ℕ = λ x. combine c x (vacant c) in
    ap (λ (x : ℕ). f (f (f (f (f x))))) u ∙ ap (λ (x : ℕ). f (f (f (f x)))) u ∙ ap (λ (x : ℕ). f (f (f x))) u ∙ ap (λ (x : ℕ). f (f x)) u ∙ ap f u ∙ u

vacant_five : (c : ℕ) → combine c (combine c (combine c (combine c (combine c (vacant c) (vacant c)) (vacant c)) (vacant c)) (vacant c)) (vacant c) ≡ vacant c
vacant_five c = let u = vacant_vacant c in let f : ℕ → ℕ = λ x. combine c x (vacant c) in
    ap (λ (x : ℕ). f (f (f (f x)))) u ∙ ap (λ (x : ℕ). f (f (f x))) u ∙ ap (λ (x : ℕ). f (f x)) u ∙ ap f u ∙ u

failed_case : (b : Bool) (c x : ℕ) → c < 6 → x ≤ 18446744073709551615
    → combine c (combine c (combine c (combine c (combine c (combine c (vacant c) (pick b (at_column c 0 x) (vacant c))) (pick b (at_column c 1 x) (vacant c))) (pick b (at_column c 2 x) (vacant c))) (pick b (at_column c 3 x) (vacant c))) (pick b (at_column c 4 x) (vacant c))) (pick b (at_column c 5 x) (vacant c)) ≡ pick b x (vacant c)
failed_case true c x h s = six c x h s
failed_case false c x h s = vacant_six c

passed_case : (b : Bool) (c x : ℕ) → c < 6 → x ≤ 18446744073709551615 → (c ≡ 1 → x ≡ 0)
    → combine c (combine c (combine c (combine c (combine c (vacant c) (pick b (at_column c 0 x) (vacant c))) (pick b (at_column c 2 x) (vacant c))) (pick b (at_column c 3 x) (vacant c))) (pick b (at_column c 4 x) (vacant c))) (pick b (at_column c 5 x) (vacant c)) ≡ pick b x (vacant c)
passed_case true c x h s z = five c x h s z
passed_case false c x h s z = vacant_five c

one_low : (b : Bool) → one_if b ≤ 1
one_low true = omega arith
one_low false = omega arith

pub part_low : (c : ℕ) (e : Entry) → e.elapsed < 4294967296 → e.bytes < 4294967296 → part c e ≤ 4294967296
part_low zero e a b = omega arith
part_low (suc zero) e a b = let o = one_low (not e.ok) in omega arith
part_low (suc (suc zero)) e a b = omega arith
part_low (suc (suc (suc zero))) e a b = omega arith
part_low (suc (suc (suc (suc c)))) e a b = omega arith

either_bool : (b : Bool) → (b ≡ true) ⊎ (b ≡ false)
either_bool true = inl refl
either_bool false = inr refl

no_error : (c : ℕ) (e : Entry) → (not e.ok) ≡ false → c ≡ 1 → part c e ≡ 0
no_error c e is one = ap (λ (m : ℕ). part m e) one ∙ ap one_if is

done_all : (lb nr : ℕ) (e : Entry) (j : ℕ) → e.elapsed < 4294967296 → e.bytes < 4294967296 → done lb nr (not e.ok) j e (sums e) ≡ adds lb nr j e
done_all lb nr e j a b = let p = part_low (j % 6) e a b in ⊎_elim
    (λ (y : (not e.ok) ≡ true). ap (λ (f : Bool). done lb nr f j e (5 + one_if f)) y ∙ failed_case (row_at lb nr e.label == j / 6) (j % 6) (part (j % 6) e) (omega arith) (omega arith))
    (λ (y : (not e.ok) ≡ false). ap (λ (f : Bool). done lb nr f j e (5 + one_if f)) y ∙ passed_case (row_at lb nr e.label == j / 6) (j % 6) (part (j % 6) e) (omega arith) (omega arith) (no_error (j % 6) e y))
    (either_bool (not e.ok))

-- Bounds: no sum comes near the end of its word

pub pick_low : (b : Bool) (x u m : ℕ) → x ≤ m → u ≤ m → pick b x u ≤ m
pick_low true x u m h k = h
pick_low false x u m h k = k

adds_low : (lb nr : ℕ) (j : ℕ) (x : ℕ × Entry) (i : ℕ) → j % 6 < 4 → x.1.elapsed < 4294967296 → x.1.bytes < 4294967296 → entry_at lb nr i j x ≤ 4294967296
adds_low lb nr j x i sum a b = let u = vacant_sum (j % 6) sum in pick_low (x.0 == i) (adds lb nr j x.1) (vacant (j % 6)) 4294967296 (pick_low (row_at lb nr x.1.label == j / 6) (part (j % 6) x.1) (vacant (j % 6)) 4294967296 (part_low (j % 6) x.1 a b) (omega arith)) (omega arith)

list_low : (lb nr : ℕ) (i j : ℕ) (l : List (ℕ × Entry)) → j % 6 < 4 → AllSmall l → gather (j % 6) (entry_at lb nr i j) l ≤ 4294967296 * length l
list_low lb nr i j [] sum h = let u = vacant_sum (j % 6) sum in omega arith
list_low lb nr i j (x ∷ xs) sum h = let r = list_low lb nr i j xs sum h.2 in let a = adds_low lb nr j x i sum h.0 h.1 in let o = combine_sum (j % 6) (entry_at lb nr i j x) (gather (j % 6) (entry_at lb nr i j) xs) sum in omega arith

done_low : (lb nr : ℕ) (f : Bool) (j : ℕ) (e : Entry) (d : ℕ) → j % 6 < 4 → e.elapsed < 4294967296 → e.bytes < 4294967296 → done lb nr f j e d ≤ 4294967296 * d
done_low lb nr f j e zero sum a b = let u = vacant_sum (j % 6) sum in omega arith
done_low lb nr f j e (suc d) sum a b =
    let r = done_low lb nr f j e d sum a b in let u = vacant_sum (j % 6) sum in let x : ℕ = pick (row_at lb nr e.label == j / 6) (pick (skips f d == j % 6) (part (j % 6) e) (vacant (j % 6))) (vacant (j % 6)) in
    let p = pick_low (row_at lb nr e.label == j / 6) (pick (skips f d == j % 6) (part (j % 6) e) (vacant (j % 6))) (vacant (j % 6)) 4294967296 (pick_low (skips f d == j % 6) (part (j % 6) e) (vacant (j % 6)) 4294967296 (part_low (j % 6) e a b) (omega arith)) (omega arith) in
    let o = combine_sum (j % 6) (done lb nr f j e d) x sum in omega arith

stage_low : (n : Numbers) (nr : ℕ) (r : ReporterView) (l : List (ℕ × Entry)) (s : Stage) (i j : ℕ) → j % 6 < 4 → TimelyStage n r l s → stage_at n.labels nr i j s ≤ 34359738368 * busy s
stage_low n nr r l Out i j sum h = let u = vacant_sum (j % 6) sum in omega arith
stage_low n nr r l (In p) i j sum h = let u = vacant_sum (j % 6) sum in omega arith
stage_low n nr r l (On p m e d) i j sum h = let a = done_low n.labels nr (not e.ok) j e d sum h.4 h.5 in let u = vacant_sum (j % 6) sum in let o = one_low (not e.ok) in let b = h.2 in pick_low (m == i) (done n.labels nr (not e.ok) j e d) (vacant (j % 6)) 34359738368 (omega arith) (omega arith)

joined_low : (lb : ℕ) (a i j : ℕ) (js : List Joined) → j % 6 < 4 → AllTimely a js → joined_at lb i j js ≤ 34359738368 * total (λ (w : Joined). length w.list) js
joined_low lb a i j [] sum h = let u = vacant_sum (j % 6) sum in omega arith
joined_low lb a i j (x ∷ xs) sum h =
    let r = joined_low lb a i j xs sum h.1 in let t = list_low lb x.number i j x.list sum h.0.2 in
    let o = combine_sum (j % 6) (list_at lb x.number i j x.list) (joined_at lb i j xs) sum in omega arith

value_low : (n : Numbers) (r : ReporterView) (v : View) (i j : ℕ) → j % 6 < 4 → Timely n r v → value n.labels i j v ≤ 34359738368 * uses v
value_low n r (Reporter q) i j sum h = joined_low n.labels (active r) i j q.joined sum h
value_low n r (Writer w) i j sum h = let a = list_low n.labels w.number i j w.list sum h.3 in let b = stage_low n w.number r w.list w.stage i j sum h.0 in let o = combine_sum (j % 6) (gather (j % 6) (entry_at n.labels w.number i j) w.list) (stage_at n.labels w.number i j w.stage) sum in omega arith
value_low n r Gone i j sum h = let u = vacant_sum (j % 6) sum in omega arith

value_bound : (n : Numbers) (ws : List ℕ) (vs : List View) (p : Phased n ws vs) (r : ReporterView) (c : Counted n ws vs r) (i j : ℕ) → j % 6 < 4 → worth n.labels i j vs ≤ 144115188075855872
value_bound n ws vs p r c i j sum =
    let z = gather_sum (j % 6) (value n.labels i j) vs sum in
    let a : total (value n.labels i j) vs ≤ total (λ v. 34359738368 * uses v) vs = total_le (value n.labels i j) (λ v. 34359738368 * uses v) vs (λ id v e. value_low n r v i j sum (c.timely id v e)) in
    let b : total (λ v. 34359738368 * uses v) vs ≡ 34359738368 * total uses vs = total_times 34359738368 uses vs in
    let m = bound n ws vs p in omega arith

-- nothing is counted in an interval above all that were named

list_none : (lb nr : ℕ) (a i j : ℕ) (l : List (ℕ × Entry)) → AllUpTo a l → a < i → gather (j % 6) (entry_at lb nr i j) l ≡ vacant (j % 6)
list_none lb nr a i j [] h lt = refl
list_none lb nr a i j (x ∷ xs) h lt = let z : entry_at lb nr i j x ≡ vacant (j % 6) = ap (λ (b : Bool). pick b (adds lb nr j x.1) (vacant (j % 6))) (ne_eqb x.0 i (λ e. let u = h.0 in omega arith)) in
    (λ t. combine (j % 6) (z t) (list_none lb nr a i j xs h.1 lt t)) ∙ vacant_vacant (j % 6)

joined_none : (lb : ℕ) (a i j : ℕ) (js : List Joined) → AllTimely a js → a < i → joined_at lb i j js ≡ vacant (j % 6)
joined_none lb a i j [] h lt = refl
joined_none lb a i j (x ∷ xs) h lt = (λ t. combine (j % 6) (list_none lb x.number a i j x.list h.0.1 lt t) (joined_none lb a i j xs h.1 lt t)) ∙ vacant_vacant (j % 6)

pub may_low : (c : ReporterStage) (k m : ℕ) (q p : Bool) → MayCount c k q p m → (k ≤ m) × (m ≤ k + pending c)
may_low Idle k m q p h = (omega arith, omega arith)
may_low Swapped k m q p h = h
may_low Cleared k m q p h = h
may_low (Waiting want) k m q p h = (h.0, h.1)
may_low (Harvest j) k m q p h = (omega arith, omega arith)

stage_none : (n : Numbers) (nr : ℕ) (r : ReporterView) (l : List (ℕ × Entry)) (s : Stage) (i j : ℕ) → TimelyStage n r l s → active r < i → stage_at n.labels nr i j s ≡ vacant (j % 6)
stage_none n nr r l Out i j h lt = refl
stage_none n nr r l (In p) i j h lt = refl
stage_none n nr r l (On p m e d) i j h lt = let b = may_low r.closing r.interval m (current r) p h.0 in ap (λ (b : Bool). pick b (done n.labels nr (not e.ok) j e d) (vacant (j % 6))) (ne_eqb m i (λ e. omega arith))

value_none : (n : Numbers) (r : ReporterView) (v : View) (i j : ℕ) → Timely n r v → active r < i → value n.labels i j v ≡ vacant (j % 6)
value_none n r (Reporter q) i j h lt = joined_none n.labels (active r) i j q.joined h lt
value_none n r (Writer w) i j h lt = (λ t. combine (j % 6) (list_none n.labels w.number (active r) i j w.list h.2 lt t) (stage_none n w.number r w.list w.stage i j h.0 lt t)) ∙ vacant_vacant (j % 6)
value_none n r Gone i j h lt = refl

pub later_none : (n : Numbers) (vs : List View) (r : ReporterView) → ((id : ℕ) (v : View) → get_elem? vs id ≡ some v → Timely n r v) → (i j : ℕ) → active r < i → worth n.labels i j vs ≡ vacant (j % 6)
later_none n vs r timely i j lt = gather_unit (j % 6) (value n.labels i j) vs (λ id v e. value_none n r v i j (timely id v e) lt)

-- one step more of an entry, at its own cell and at another
stage_here : (lb nr : ℕ) (m : ℕ) (e : Entry) (d j : ℕ) → d < sums e → j ≡ 6 * row_at lb nr e.label + column e d → stage_at lb nr m j (On true m e (d + 1)) ≡ combine (j % 6) (stage_at lb nr m j (On true m e d)) (part (column e d) e)
stage_here lb nr m e d j low is = let a : (z : ℕ) → pick (m == m) z (vacant (j % 6)) ≡ z = λ z. ap (λ (b : Bool). pick b z (vacant (j % 6))) (eq-eqb m m refl) in
    a (done lb nr (not e.ok) j e (d + 1)) ∙ done_here lb nr e d j low is ∙ ap (λ (z : ℕ). combine (j % 6) z (part (column e d) e)) (sym (a (done lb nr (not e.ok) j e d)))

stage_else : (lb nr : ℕ) (m : ℕ) (e : Entry) (d i j : ℕ) → d < sums e → ((i ≡ m) × (j ≡ 6 * row_at lb nr e.label + column e d) → ⊥) → pick (m == i) (done lb nr (not e.ok) j e (d + 1)) (vacant (j % 6)) ≡ pick (m == i) (done lb nr (not e.ok) j e d) (vacant (j % 6))
stage_else lb nr m e d i j low ne = dite (ℕ_discrete m i)
    (λ h. ap (λ (z : ℕ). pick (m == i) z (vacant (j % 6))) (done_else lb nr e d j low (λ h'. ne (sym h, h'))))
    (λ h. ap (λ (b : Bool). pick b (done lb nr (not e.ok) j e (d + 1)) (vacant (j % 6))) (ne_eqb m i h) ∙ sym (ap (λ (b : Bool). pick b (done lb nr (not e.ok) j e d) (vacant (j % 6))) (ne_eqb m i h)))

pending_low : (c : ReporterStage) → pending c ≤ 1
pending_low Idle = omega arith
pending_low Swapped = omega arith
pending_low Cleared = omega arith
pending_low (Waiting want) = omega arith
pending_low (Harvest j) = omega arith

-- while cells are taken, samples enter the next interval
harvest_next : (c : ReporterStage) (k m : ℕ) (q p : Bool) → MayCount c k q p m → 0 < taken_count c → m ≡ k + 1
harvest_next Idle k m q p h t = absurd (omega arith)
harvest_next Swapped k m q p h t = absurd (omega arith)
harvest_next Cleared k m q p h t = absurd (omega arith)
harvest_next (Waiting want) k m q p h t = absurd (omega arith)
harvest_next (Harvest j) k m q p h t = h

pub taken_low : (cells : ℕ) (c : ReporterStage) → InTable cells c → taken_count c ≤ cells
taken_low cells Idle h = omega arith
taken_low cells Swapped h = omega arith
taken_low cells Cleared h = omega arith
taken_low cells (Waiting want) h = omega arith
taken_low cells (Harvest j) h = omega arith

-- Reports of cells

pub row_same : (f g : ℕ → ℕ) → ((c : ℕ) → c < 6 → f c ≡ g c) → row_from f ≡ row_from g
row_same f g h =
    λ i. cond (h 0 (omega arith) i == 0) no_samples (record { count = h 0 (omega arith) i; errors = h 1 (omega arith) i; total = h 2 (omega arith) i; bytes = h 3 (omega arith) i; least = h 4 (omega arith) i; greatest = h 5 (omega arith) i })

pub rows_same : (upto : ℕ) (f g : ℕ → ℕ → ℕ) → ((l c : ℕ) → l < upto → c < 6 → f l c ≡ g l c) → rows_from upto f ≡ rows_from upto g
rows_same zero f g h = refl
rows_same (suc l) f g h = λ i. rows_same l f g (λ k c low column. h k c (omega arith) column) i ++ row_same (f l) (g l) (λ c column. h l c (omega arith) column) i ∷ []

-- equal cells fold to the same
folded_same : (labels : ℕ) (f g : ℕ → ℕ) (s l c : ℕ) → s ≤ 4 → l < labels → c < 6 → ((j : ℕ) → j < table_cells labels → f j ≡ g j) → folded_to labels f s l c ≡ folded_to labels g s l c
unfolding folded_to
folded_same labels f g zero l c few low column h = refl
folded_same labels f g (suc s) l c few low column h =
    λ i. folded c (folded_same labels f g s l c (omega arith) low column h i) (h (cell_of labels s l c) (cell_low labels s l c (omega arith) low column) i)

-- the fold before the first stripe, and with one stripe more
pub fold_none : (labels : ℕ) (f : ℕ → ℕ) (l : ℕ) → row_cells vacant ≡ row_cells (folded_to labels f 0 l)
unfolding folded_to
fold_none labels f l = refl

folded_next : (labels : ℕ) (f : ℕ → ℕ) (s l c : ℕ) → folded c (folded_to labels f s l c) (f (cell_of labels s l c)) ≡ folded_to labels f (s + 1) l c
unfolding folded_to
folded_next labels f s l c = ap (λ (k : ℕ). folded_to labels f k l c) (sym (add-one s))

pub fold_more : (labels s l : ℕ) (f : ℕ → ℕ) (r : Row) (first : ℕ) → r ≡ row_cells (folded_to labels f s l) → first ≡ 6 * (s * labels + l) → row_folded r (λ c. f (first + c)) ≡ row_cells (folded_to labels f (s + 1) l)
fold_more labels s l f r first is at =
    let next : (c : ℕ) → folded c (folded_to labels f s l c) (f (first + c)) ≡ folded_to labels f (s + 1) l c = λ c. ap (λ (z : ℕ). folded c (folded_to labels f s l c) (f (z + c))) at ∙ folded_next labels f s l c in
    ap (λ (q : Row). row_folded q (λ c. f (first + c))) is ∙ (λ i. record { count = next 0 i; errors = next 1 i; total = next 2 i; bytes = next 3 i; least = next 4 i; greatest = next 5 i })

-- equal cells make equal reports
pub report_same : (labels m : ℕ) (f g : ℕ → ℕ) → ((j : ℕ) → j < table_cells labels → f j ≡ g j) → report_from labels m f ≡ report_from labels m g
report_same labels m f g h =
    ap (λ (l : List Row). record { interval = m; rows = l }) (rows_same labels (folded_to labels f 4) (folded_to labels g 4) (λ l c low column. folded_same labels f g 4 l c (omega arith) low column h))

-- Steps of a writer

module _ (n : Numbers) (ws : List ℕ) (vs : List View) (p : Phased n ws vs) (c : Counted n ws vs p.reader) (id : ℕ) (w : WriterView) (at : get_elem? vs id ≡ some (Writer w)) where
  abbrev r : ReporterView
  r = p.reader

  -- where no cell's word and no value changes
  counted_writer : (ws' : List ℕ) (w' : WriterView) → get_or ws' 0 0 ≡ get_or ws 0 0 → ((i j : ℕ) → get_or ws' (cell_at n.labels i j) 0 ≡ get_or ws (cell_at n.labels i j) 0) → ((i j : ℕ) → value n.labels i j (Writer w') ≡ value n.labels i j (Writer w))
      → Timely n r (Writer w') → Counted n ws' (set vs id (Writer w')) r
  counted_writer ws' w' same_active same_cells same_value mine =
      let worth_same : (i j : ℕ) → worth n.labels i j (set vs id (Writer w')) ≡ worth n.labels i j vs = λ i j. gather_same (j % 6) (value n.labels i j) vs id (Writer w) (Writer w') at (same_value i j) in record {
        now_active = same_active ∙ c.now_active;
        timely = each_set (λ _ v. Timely n r v) vs id (Writer w') mine (λ j u _ e. c.timely j u e);
        taken = c.taken;
        within = c.within;
        cells = λ i j live low whole. same_cells i j ∙ c.cells i j live low whole ∙ sym (worth_same i j);
        emptied = λ j low. (same_cells r.interval j ∙ (c.emptied j low).0, (c.emptied j low).1 ∙ sym (worth_same r.interval j));
        reports = c.reports;
        sums_are = λ m old. c.sums_are m old ∙ report_same n.labels m (λ j. worth n.labels m j vs) (λ j. worth n.labels m j (set vs id (Writer w'))) (λ j low. sym (worth_same m j));
      }

  abbrev mine : Timely n r (Writer w)
  mine = c.timely id (Writer w) at

  pub enter_counts : (x : ℕ) (q : Bool) → w.stage ≡ Out → Counted n (set ws 1 x) (set vs id (Writer (at_stage w (In q) w.list))) r
  enter_counts x q out = counted_writer (set ws 1 x) (at_stage w (In q) w.list) (get_or-set_other ws 1 0 x 0 (λ h. omega arith)) (λ i j. cell_else n ws 1 x i j (omega arith))
      (λ i j. ap (λ (s : ℕ). combine (j % 6) (gather (j % 6) (entry_at n.labels w.number i j) w.list) s) (sym (ap (stage_at n.labels w.number i j) out))) (tt, mine.1, mine.2, mine.3)

  pub mark_counts : (x : ℕ) (a b : Bool) → Counted n (set ws 4 x) (set vs id (Writer (marked w a b))) r
  mark_counts x a b = counted_writer (set ws 4 x) (marked w a b) (get_or-set_other ws 4 0 x 0 (λ h. omega arith)) (λ i j. cell_else n ws 4 x i j (omega arith)) (λ i j. refl) mine

  may_active : (cl : ReporterStage) (k : ℕ) (b q : Bool) → MayCount cl k b q (k + pending cl)
  may_active Idle k b q = add-zero k
  may_active Swapped k b q = (omega arith, omega arith)
  may_active Cleared k b q = (omega arith, omega arith)
  may_active (Waiting want) k b q = (omega arith, omega arith, λ _. refl)
  may_active (Harvest j) k b q = refl

  pub load_counts : (q : Bool) (e : Entry) → w.stage ≡ In q → e.label < n.labels → e.elapsed < 4294967296 → e.bytes < 4294967296 → Counted n (set ws 0 (get_or ws 0 0)) (set vs id (Writer (at_stage w (On q (get_or ws 0 0) e 0) w.list))) r
  load_counts q e is label small small' =
      let a : ℕ = get_or ws 0 0 in let s : Stage = On q a e 0 in
      let may : MayCount r.closing r.interval (current r) q a = subst (MayCount r.closing r.interval (current r) q) (sym c.now_active) (may_active r.closing r.interval (current r) q) in
      let up : AllUpTo a w.list = subst (λ (b : ℕ). AllUpTo b w.list) (sym c.now_active) mine.2 in
      subst (λ (xs : List ℕ). Counted n xs (set vs id (Writer (at_stage w s w.list))) r) (sym (set-get_or ws 0 0))
      (counted_writer ws (at_stage w s w.list) refl (λ _ _. refl)
      (λ i j. ap (λ (x : ℕ). combine (j % 6) (gather (j % 6) (entry_at n.labels w.number i j) w.list) x) (pick_unit (a == i) (vacant (j % 6)) ∙ sym (ap (stage_at n.labels w.number i j) is)))
      ((may, up, omega arith, label, small, small'), mine.1, mine.2, mine.3))

  pub exit_counts : (q : Bool) (m : ℕ) (e : Entry) (x : ℕ) → w.stage ≡ On q m e (sums e) → Counted n (set ws (end_at q) x) (set vs id (Writer (at_stage w Out (w.list ++ (m, e) ∷ [])))) r
  exit_counts q m e x is =
      let was : TimelyStage n r w.list (On q m e (sums e)) = subst (TimelyStage n r w.list) is mine.0 in
      let b = may_low r.closing r.interval m (current r) q was.0 in
      counted_writer (set ws (end_at q) x) (at_stage w Out (w.list ++ (m, e) ∷ [])) (get_or-set_other ws (end_at q) 0 x 0 (λ h. let s = end_some q in omega arith)) (λ i j. cell_else n ws (end_at q) x i j (end_low q))
      (λ i j. let d : stage_at n.labels w.number i j w.stage ≡ entry_at n.labels w.number i j (m, e) = ap (stage_at n.labels w.number i j) is ∙ ap (λ (y : ℕ). pick (m == i) y (vacant (j % 6))) (done_all n.labels w.number e j was.4 was.5) in
      gather_cap (j % 6) (entry_at n.labels w.number i j) (w.list ++ (m, e) ∷ []) ∙ gather_snoc (j % 6) (entry_at n.labels w.number i j) w.list (m, e) ∙ ap (λ (y : ℕ). combine (j % 6) (gather (j % 6) (entry_at n.labels w.number i j) w.list) y) (sym d))
      (tt, rising_snoc w.list (m, e) mine.1 was.1, up_snoc (active r) w.list (m, e) mine.2 b.1, small_snoc w.list (m, e) mine.3 was.4 was.5)

  -- Add, Lower and Raise in one
  pub add_counts : (q : Bool) (m : ℕ) (e : Entry) (d : ℕ) → w.stage ≡ On q m e d → d < sums e
      → let i0 : ℕ = cell_at n.labels m (6 * row_at n.labels w.number e.label + column e d) in Counted n (set ws i0 (folded (column e d) (get_or ws i0 0) (part (column e d) e))) (set vs id (Writer (at_stage w (On q m e (d + 1)) w.list))) r
  add_counts q m e d is more =
      let col : ℕ = column e d in let j0 : ℕ = 6 * row_at n.labels w.number e.label + col in let i0 : ℕ = cell_at n.labels m j0 in let x : ℕ = get_or ws i0 0 in let y : ℕ = part col e in
      let w' : WriterView = at_stage w (On q m e (d + 1)) w.list in let ws' : List ℕ = set ws i0 (folded col x y) in
      let was : TimelyStage n r w.list (On q m e d) = subst (TimelyStage n r w.list) is mine.0 in
      let b = may_low r.closing r.interval m (current r) q was.0 in let pend = pending_low r.closing in
      let lc = column_low (not e.ok) d more in let label = was.3 in
      let low0 : j0 < table_cells n.labels = cell_in n.labels w.number e.label col label lc in
      let live0 : IsLive r m = (b.0, omega arith) in
      let col_is : j0 % 6 ≡ col = omega arith in
      let wide = p.wide in let in0 = place_in n m j0 low0 in let tk = c.taken in
      -- a table that is being taken gets no more
      let whole0 : m ≡ r.interval → length r.cells ≤ j0 = λ h. dite (ℕ_discrete (taken_count r.closing) 0) (λ z. omega arith) (λ z. absurd (let t = harvest_next r.closing r.interval m (current r) q was.0 (omega arith) in omega arith)) in
      let old : x ≡ worth n.labels m j0 vs = c.cells m j0 live0 low0 whole0 in
      let py = part_low col e was.4 was.5 in
      let fold : folded col x y ≡ combine (j0 % 6) x y = folded_is col x y (λ sum. let top = value_bound n ws vs p r c m j0 (omega arith) in omega arith) ∙ ap (λ (k : ℕ). combine k x y) (sym col_is) in
      let here : get_or ws' i0 0 ≡ combine (j0 % 6) x y = get_or-set_same ws i0 (folded col x y) 0 (omega arith) ∙ fold in
      let there : (i j : ℕ) → cell_at n.labels i j ≢ i0 → get_or ws' (cell_at n.labels i j) 0 ≡ get_or ws (cell_at n.labels i j) 0 = λ i j ne. get_or-set_other ws i0 (cell_at n.labels i j) (folded col x y) 0 ne in
      let stage_is : (i j : ℕ) → stage_at n.labels w.number i j w.stage ≡ pick (m == i) (done n.labels w.number (not e.ok) j e d) (vacant (j % 6)) = λ i j. ap (stage_at n.labels w.number i j) is in
      let list : (i j : ℕ) → ℕ = λ i j. gather (j % 6) (entry_at n.labels w.number i j) w.list in
      let same_worth : (i j : ℕ) → ((i ≡ m) × (j ≡ j0) → ⊥) → worth n.labels i j (set vs id (Writer w')) ≡ worth n.labels i j vs = λ i j ne.
      gather_same (j % 6) (value n.labels i j) vs id (Writer w) (Writer w') at (ap (λ (z : ℕ). combine (j % 6) (list i j) z) (stage_else n.labels w.number m e d i j more ne ∙ sym (stage_is i j))) in
      let more_worth : worth n.labels m j0 (set vs id (Writer w')) ≡ combine (j0 % 6) (worth n.labels m j0 vs) y =
      gather_more (j0 % 6) (value n.labels m j0) vs id (Writer w) (Writer w') y at
      (ap (λ (z : ℕ). combine (j0 % 6) (list m j0) z) (stage_here n.labels w.number m e d j0 more refl ∙ ap (λ (z : ℕ). combine (j0 % 6) z y) (sym (stage_is m j0))) ∙ sym (combine_assoc (j0 % 6) (list m j0) (stage_at n.labels w.number m j0 w.stage) y)) in
      record {
        now_active = get_or-set_other ws i0 0 (folded col x y) 0 (λ h. omega arith) ∙ c.now_active;
        timely = each_set (λ _ v. Timely n r v) vs id (Writer w') ((was.0, was.1, omega arith, was.3, was.4, was.5), mine.1, mine.2, mine.3) (λ j u _ e'. c.timely j u e');
        taken = c.taken;
        within = c.within;
        cells = λ i j live low whole. dite (ℕ_discrete i m)
            (λ ei. dite (ℕ_discrete j j0)
            (λ ej. subst (λ (z : ℕ × ℕ). get_or ws' (cell_at n.labels z.0 z.1) 0 ≡ worth n.labels z.0 z.1 (set vs id (Writer w'))) (λ t. (sym ei t, sym ej t)) (here ∙ ap (λ (z : ℕ). combine (j0 % 6) z y) old ∙ sym more_worth))
            (λ nj. there i j (place_apart n i m j j0 (let l = live.1 in omega arith) (let l = live.0 in omega arith) low low0 (λ z. nj z.1)) ∙ c.cells i j live low whole ∙ sym (same_worth i j (λ z. nj z.1))))
            (λ ni. there i j (place_apart n i m j j0 (let l = live.1 in omega arith) (let l = live.0 in omega arith) low low0 (λ z. ni z.0)) ∙ c.cells i j live low whole ∙ sym (same_worth i j (λ z. ni z.0)));
        emptied = λ j low. let wi = taken_low (table_cells n.labels) r.closing c.within in let next = harvest_next r.closing r.interval m (current r) q was.0 (omega arith) in (
          there r.interval j (place_apart n r.interval m j j0 (omega arith) (omega arith) (omega arith) low0 (λ z. let a = z.0 in omega arith)) ∙ (c.emptied j low).0,
          (c.emptied j low).1 ∙ sym (same_worth r.interval j (λ z. let a = z.0 in omega arith)),
        );
        reports = c.reports;
        sums_are = λ m' old'. c.sums_are m' old' ∙ report_same n.labels m' (λ j. worth n.labels m' j vs) (λ j. worth n.labels m' j (set vs id (Writer w'))) (λ j low. sym (same_worth m' j (λ z. let a = z.0 in let b0 = b.0 in omega arith)));
      }

-- Steps of the reporter

module _ (n : Numbers) (ws : List ℕ) (vs : List View) (p : Phased n ws vs) (c : Counted n ws vs p.reader) where
  abbrev R : ReporterView
  R = p.reader

  same_worths : (r' : ReporterView) → r'.joined ≡ R.joined → (i j : ℕ) → worth n.labels i j (set vs 0 (Reporter r')) ≡ worth n.labels i j vs
  same_worths r' joined i j = gather_same (j % 6) (value n.labels i j) vs 0 (Reporter R) (Reporter r') p.prefix (ap (λ (l : List Joined). joined_at n.labels i j l) joined)

  some_inside : (id : ℕ) (w : WriterView) (q : Bool) (m : ℕ) (e : Entry) (d : ℕ) → get_elem? vs id ≡ some (Writer w) → w.stage ≡ On q m e d → 1 ≤ total (inside q) vs
  some_inside id w q m e d at is = let t = total_at (inside q) vs id (Writer w) at in let o : stage_inside q w.stage ≡ 1 = ap (stage_inside q) is ∙ ap one_if (same_self q) in omega arith

  timely_stage : (r' : ReporterView) (l : List (ℕ × Entry)) (s : Stage) → ((q : Bool) (m : ℕ) (e : Entry) (d : ℕ) → s ≡ On q m e d → MayCount R.closing R.interval (current R) q m → MayCount r'.closing r'.interval (current r') q m) → TimelyStage n R l s → TimelyStage n r' l s
  timely_stage r' l Out f h = tt
  timely_stage r' l (In q) f h = tt
  timely_stage r' l (On q m e d) f h = (f q m e d refl h.0, h.1, h.2, h.3, h.4, h.5)

  timely_view : (r' : ReporterView) (id : ℕ) (v : View) → get_elem? vs id ≡ some v → active R ≤ active r' → ((q : Bool) (m : ℕ) → 1 ≤ total (inside q) vs → MayCount R.closing R.interval (current R) q m → MayCount r'.closing r'.interval (current r') q m) → Timely n R v → Timely n r' v
  timely_view r' id (Reporter q) at le f h = timely_more (active R) (active r') q.joined h le
  timely_view r' id (Writer w) at le f h = (timely_stage r' w.list w.stage (λ q m e d is. f q m (some_inside id w q m e d at is)) h.0, h.1, up_more (active R) (active r') w.list h.2 le, h.3)
  timely_view r' id Gone at le f h = tt

  counted_reporter : (ws' : List ℕ) (r' : ReporterView) → r'.joined ≡ R.joined → get_or ws' 0 0 ≡ active r' → active R ≤ active r'
      → ((q : Bool) (m : ℕ) → 1 ≤ total (inside q) vs → MayCount R.closing R.interval (current R) q m → MayCount r'.closing r'.interval (current r') q m)
      → length r'.cells ≡ taken_count r'.closing → InTable (table_cells n.labels) r'.closing
      → ((i j : ℕ) → IsLive r' i → j < table_cells n.labels → (i ≡ r'.interval → length r'.cells ≤ j) → get_or ws' (cell_at n.labels i j) 0 ≡ worth n.labels i j vs)
      → ((j : ℕ) → j < length r'.cells → (get_or ws' (cell_at n.labels r'.interval j) 0 ≡ vacant (j % 6)) × (get_or r'.cells j 0 ≡ worth n.labels r'.interval j vs))
      → length r'.closed ≡ r'.interval → ((m : ℕ) → m < r'.interval → get_or r'.closed m no_report ≡ worth_report n.labels m vs)
      → Counted n ws' (set vs 0 (Reporter r')) r'
  counted_reporter ws' r' joined act le may taken within cells emptied reports sums' = record {
    now_active = act;
    timely = each_set (λ _ v. Timely n r' v) vs 0 (Reporter r') (subst (AllTimely (active r')) (sym joined) (timely_more (active R) (active r') R.joined (c.timely 0 (Reporter R) p.prefix) le))
        (λ j u _ e. timely_view r' j u e le may (c.timely j u e));
    taken = taken;
    within = within;
    cells = λ i j live low whole. cells i j live low whole ∙ sym (same_worths r' joined i j);
    emptied = λ j low. ((emptied j low).0, (emptied j low).1 ∙ sym (same_worths r' joined r'.interval j));
    reports = reports;
    sums_are = λ m old. sums' m old ∙ report_same n.labels m (λ j. worth n.labels m j vs) (λ j. worth n.labels m j (set vs 0 (Reporter r'))) (λ j low. sym (same_worths r' joined m j));
  }

  pub raise_counts : Counted n (set ws 4 1) (set vs 0 (Reporter (reporter_raised R))) (reporter_raised R)
  raise_counts =
      counted_reporter (set ws 4 1) (reporter_raised R) refl (get_or-set_other ws 4 0 1 0 (λ h. omega arith) ∙ c.now_active) (omega arith) (λ q m _ h. h) c.taken c.within
      (λ i j live low whole. cell_else n ws 4 1 i j (omega arith) ∙ c.cells i j live low whole)
      (λ j low. let wi = taken_low (table_cells n.labels) R.closing c.within in let t = c.taken in (cell_else n ws 4 1 R.interval j (omega arith) ∙ (c.emptied j low).0, (c.emptied j low).1)) c.reports c.sums_are

  -- a number that is kept as the last one seen
  pub see_counts : (x : ℕ) → Counted n ws (set vs 0 (Reporter (with_seen R x))) (with_seen R x)
  see_counts x =
      counted_reporter ws (with_seen R x) refl c.now_active (omega arith) (λ q m _ h. h) c.taken c.within (λ i j live low whole. c.cells i j live low whole) (λ j low. c.emptied j low) c.reports c.sums_are

  pub swap_counts : R.closing ≡ Idle → Counted n (set ws 0 (R.interval + 1)) (set vs 0 (Reporter (at_closing R Swapped))) (at_closing R Swapped)
  swap_counts idle =
      let wide = p.wide in let pend : pending R.closing ≡ 0 = ap pending idle in let none : taken_count R.closing ≡ 0 = ap taken_count idle in
      counted_reporter (set ws 0 (R.interval + 1)) (at_closing R Swapped) refl (get_or-set_same ws 0 (R.interval + 1) 0 (omega arith)) (omega arith)
      (λ q m _ h. let e : m ≡ R.interval = subst (λ (x : ReporterStage). MayCount x R.interval (current R) q m) idle h in (omega arith, omega arith))
      (c.taken ∙ none) tt
      (λ i j live low whole. cell_else n ws 0 (R.interval + 1) i j (omega arith) ∙ c.cells i j live low whole)
      (λ j low. absurd (let t = c.taken in omega arith)) c.reports c.sums_are

  pub clear_counts : (at x : ℕ) → R.closing ≡ Swapped → at < 5 → 0 < at → Counted n (set ws at x) (set vs 0 (Reporter (at_closing R Cleared))) (at_closing R Cleared)
  clear_counts at x swapped low some_at =
      let pend : pending R.closing ≡ 1 = ap pending swapped in let none : taken_count R.closing ≡ 0 = ap taken_count swapped in
      counted_reporter (set ws at x) (at_closing R Cleared) refl (get_or-set_other ws at 0 x 0 (λ h. omega arith) ∙ c.now_active ∙ ap (λ (z : ℕ). R.interval + z) pend) (omega arith)
      (λ q m _ h. subst (λ (z : ReporterStage). MayCount z R.interval (current R) q m) swapped h)
      (c.taken ∙ none) tt
      (λ i j live low' whole. cell_else n ws at x i j low ∙ c.cells i j live low' whole)
      (λ j low'. absurd (let t = c.taken in omega arith)) c.reports c.sums_are

  pub flip_counts : (x want : ℕ) → R.closing ≡ Cleared → Counted n (set ws 1 x) (set vs 0 (Reporter (at_closing R (Waiting want)))) (at_closing R (Waiting want))
  flip_counts x want cleared =
      let pend : pending R.closing ≡ 1 = ap pending cleared in let none : taken_count R.closing ≡ 0 = ap taken_count cleared in
      let was : current R ≡ is_odd R.interval = ap (λ (t : ℕ). is_odd (R.interval + t)) (ap turned cleared) ∙ ap is_odd (add-zero R.interval) in
      let far : other R ≡ is_odd (R.interval + 1) = ap not was ∙ sym (odd_next R.interval) in
      let old : (total (inside (other R)) vs ≡ 0) × (get_or ws (end_at (other R)) 0 ≡ initial (other R)) =
      subst (λ (z : ReporterStage). InsideBefore z (total (inside (other R)) vs) (get_or ws (end_at (other R)) 0) (initial (other R)) (total uses vs)) cleared p.behind in
      counted_reporter (set ws 1 x) (at_closing R (Waiting want)) refl (get_or-set_other ws 1 0 x 0 (λ h. omega arith) ∙ c.now_active ∙ ap (λ (z : ℕ). R.interval + z) pend) (omega arith)
      (λ q m some_in h. let b : (R.interval ≤ m) × (m ≤ R.interval + 1) = subst (λ (z : ReporterStage). MayCount z R.interval (current R) q m) cleared h in
      (b.0, b.1, λ e. absurd (let z = ap (λ (t : Bool). total (inside t) vs) (e ∙ sym far) in let o = old.0 in omega arith)))
      (c.taken ∙ none) tt
      (λ i j live low' whole. cell_else n ws 1 x i j (omega arith) ∙ c.cells i j live low' whole)
      (λ j low'. absurd (let t = c.taken in omega arith)) c.reports c.sums_are

  -- the cells of the interval that closes were taken into l as far as it goes, and those of the next are whole
  abbrev Taken : List ℕ → List ℕ → Type 0
  Taken ws' l = ((j : ℕ) → j < table_cells n.labels → (length l ≤ j → get_or ws' (cell_at n.labels R.interval j) 0 ≡ worth n.labels R.interval j vs) × (get_or ws' (cell_at n.labels (R.interval + 1) j) 0 ≡ worth n.labels (R.interval + 1) j vs))
      × ((j : ℕ) → j < length l → (get_or ws' (cell_at n.labels R.interval j) 0 ≡ vacant (j % 6)) × (get_or l j 0 ≡ worth n.labels R.interval j vs))

  abbrev Next : Type 0
  Next = (q : Bool) (m : ℕ) → 1 ≤ total (inside q) vs → MayCount R.closing R.interval (current R) q m → m ≡ R.interval + 1

  not_eqb : (a b : ℕ) → (a == b) ≡ false → a ≢ b
  not_eqb a b f e = true≢false (sym (eq-eqb a b e) ∙ f)

  hold_counts : (ws' l : List ℕ) (j : ℕ) → pending R.closing ≡ 1 → get_or ws' 0 0 ≡ R.interval + 1 → Next → Taken ws' l → length l ≡ j → j < table_cells n.labels → Counted n ws' (set vs 0 (Reporter (holding R l j))) (holding R l j)
  hold_counts ws' l j pend act next t len low =
      counted_reporter ws' (holding R l j) refl act (omega arith) next len low
      (λ i j' live low' whole. dite (ℕ_discrete i R.interval)
      (λ e. subst (λ (z : ℕ). get_or ws' (cell_at n.labels z j') 0 ≡ worth n.labels z j' vs) (sym e) ((t.0 j' low').0 (whole e)))
      (λ ne. let is : R.interval + 1 ≡ i = (let a = live.0 in let b = live.1 in omega arith) in subst (λ (z : ℕ). get_or ws' (cell_at n.labels z j') 0 ≡ worth n.labels z j' vs) is (t.0 j' low').1))
      t.1 c.reports c.sums_are

  close_counts : (ws' l : List ℕ) → pending R.closing ≡ 1 → get_or ws' 0 0 ≡ R.interval + 1 → Next → Taken ws' l → length l ≡ table_cells n.labels → Counted n ws' (set vs 0 (Reporter (closed_with R l))) (closed_with R l)
  close_counts ws' l pend act next t len =
      let reports = c.reports in
      counted_reporter ws' (closed_with R l) refl (act ∙ sym (add-zero (R.interval + 1))) (omega arith) next refl tt
      (λ i j live low whole. dite (ℕ_discrete i (R.interval + 1))
      (λ e. subst (λ (z : ℕ). get_or ws' (cell_at n.labels z j) 0 ≡ worth n.labels z j vs) (sym e) (t.0 j low).1)
      (λ ne. let is : R.interval + 2 ≡ i = (let a = live.0 in let b = live.1 in omega arith) in
      let unit_word : get_or ws' (cell_at n.labels i j) 0 ≡ vacant (j % 6) = subst (λ (z : ℕ). get_or ws' (cell_at n.labels z j) 0 ≡ vacant (j % 6)) is (ap (λ (w : ℕ). get_or ws' w 0) (same_place n R.interval j) ∙ (t.1 j (omega arith)).0) in
      unit_word ∙ sym (later_none n vs R c.timely i j (omega arith))))
      (λ j low. absurd (omega arith))
      (length-append R.closed (report_of R.labels R.interval l ∷ []) ∙ omega arith)
      (λ m old. dite (ℕ_discrete m R.interval)
      (λ e. subst (λ (z : ℕ). get_or (R.closed ++ report_of R.labels R.interval l ∷ []) z no_report ≡ worth_report n.labels z vs) (sym e)
      (last_is R.closed (report_of R.labels R.interval l) no_report R.interval reports ∙ ap (λ (z : ℕ). report_of z R.interval l) p.labels
      ∙ report_same n.labels R.interval (λ j. get_or l j 0) (λ j. worth n.labels R.interval j vs) (λ j low. (t.1 j (omega arith)).1)))
      (λ ne. before_last R.closed (report_of R.labels R.interval l) no_report m (omega arith) ∙ c.sums_are m (omega arith)))

  gather_counts : (ws' l : List ℕ) (j : ℕ) (b : Bool) → (j == table_cells R.labels) ≡ b → pending R.closing ≡ 1 → get_or ws' 0 0 ≡ R.interval + 1 → Next → Taken ws' l → length l ≡ j → j ≤ table_cells n.labels → Counted n ws' (set vs 0 (Reporter (gathered_if b R l j))) (gathered_if b R l j)
  gather_counts ws' l j true is pend act next t len low = close_counts ws' l pend act next t (len ∙ eqb-true j (table_cells R.labels) is ∙ ap table_cells p.labels)
  gather_counts ws' l j false is pend act next t len low = hold_counts ws' l j pend act next t len (let ne : j ≢ table_cells R.labels = not_eqb j (table_cells R.labels) is in let same : table_cells R.labels ≡ table_cells n.labels = ap table_cells p.labels in omega arith)

  pub settle_counts : (want : ℕ) → R.closing ≡ Waiting want → total (inside (other R)) vs ≡ 0 → Counted n ws (set vs 0 (Reporter (gathered R [] 0))) (gathered R [] 0)
  settle_counts want waiting none =
      let pend : pending R.closing ≡ 1 = ap pending waiting in
      let nothing : length R.cells ≡ 0 = c.taken ∙ ap taken_count waiting in
      gather_counts ws [] 0 (0 == table_cells R.labels) refl pend (c.now_active ∙ ap (λ (z : ℕ). R.interval + z) pend)
      (λ q m some_in h. let may : (R.interval ≤ m) × (m ≤ R.interval + 1) × (q ≡ current R → m ≡ R.interval + 1) = subst (λ (z : ReporterStage). MayCount z R.interval (current R) q m) waiting h in
      which (current R) q (λ b. q ≡ b → 1 ≤ total (inside b) vs → m ≡ R.interval + 1) (λ e _. may.2 e) (λ e s. absurd (omega arith)) refl some_in)
      ((λ j low. ((λ _. c.cells R.interval j (omega arith, omega arith) low (λ _. omega arith)), c.cells (R.interval + 1) j (omega arith, omega arith) low (λ e. absurd (omega arith)))), λ j low. absurd (omega arith))
      refl (omega arith)

  pub take_counts : (j : ℕ) → R.closing ≡ Harvest j → j < table_cells n.labels
      → let x : ℕ = get_or ws (cell_at n.labels R.interval j) 0 in Counted n (set ws (cell_at n.labels R.interval j) (vacant (j % 6))) (set vs 0 (Reporter (gathered R (R.cells ++ x ∷ []) (j + 1)))) (gathered R (R.cells ++ x ∷ []) (j + 1))
  take_counts j harvest low =
      let i0 : ℕ = cell_at n.labels R.interval j in let x : ℕ = get_or ws i0 0 in let ws' : List ℕ = set ws i0 (vacant (j % 6)) in let l : List ℕ = R.cells ++ x ∷ [] in
      let pend : pending R.closing ≡ 1 = ap pending harvest in
      let len : length R.cells ≡ j = c.taken ∙ ap taken_count harvest in
      let longer : length l ≡ j + 1 = length-append R.cells (x ∷ []) ∙ omega arith in
      let wide = p.wide in let in0 = place_in n R.interval j low in
      let here : get_or ws' i0 0 ≡ vacant (j % 6) = get_or-set_same ws i0 (vacant (j % 6)) 0 (omega arith) in
      let there : (i j' : ℕ) → cell_at n.labels i j' ≢ i0 → get_or ws' (cell_at n.labels i j') 0 ≡ get_or ws (cell_at n.labels i j') 0 = λ i j' ne. get_or-set_other ws i0 (cell_at n.labels i j') (vacant (j % 6)) 0 ne in
      gather_counts ws' l (j + 1) (j + 1 == table_cells R.labels) refl pend (get_or-set_other ws i0 0 (vacant (j % 6)) 0 (λ h. omega arith) ∙ c.now_active ∙ ap (λ (z : ℕ). R.interval + z) pend)
      (λ q m _ h. subst (λ (z : ReporterStage). MayCount z R.interval (current R) q m) harvest h) (
        (λ j' low'. (
          (λ after. there R.interval j' (place_apart n R.interval R.interval j' j (omega arith) (omega arith) low' low (λ z. let e = z.1 in omega arith)) ∙ c.cells R.interval j' (omega arith, omega arith) low' (λ _. omega arith)),
          there (R.interval + 1) j' (place_apart n (R.interval + 1) R.interval j' j (omega arith) (omega arith) low' low (λ z. let a = z.0 in omega arith)) ∙ c.cells (R.interval + 1) j' (omega arith, omega arith) low' (λ e. absurd (omega arith)),
        )),
        λ j' low'. dite (ℕ_discrete j' j)
            (λ e. subst (λ (z : ℕ). (get_or ws' (cell_at n.labels R.interval z) 0 ≡ vacant (z % 6)) × (get_or l z 0 ≡ worth n.labels R.interval z vs)) (sym e) (here, last_is R.cells x 0 j len ∙ c.cells R.interval j (omega arith, omega arith) low (λ _. omega arith)))
            (λ ne. let o = c.emptied j' (omega arith) in
            (there R.interval j' (place_apart n R.interval R.interval j' j (omega arith) (omega arith) (omega arith) low (λ z. ne z.1)) ∙ o.0, before_last R.cells x 0 j' (omega arith) ∙ o.1)),
      )
      longer (omega arith)
