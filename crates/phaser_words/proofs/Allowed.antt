-- What each call's step asks of the table, from the facts that the recorder's steps keep its invariant.
use Rattle.std.specs.Prelude.{min, max}
use Rattle.std.proofs.Common.{◌≡◌, ℕ, zero, suc, ◌+◌, ◌*◌, ◌%◌, ◌^◌, ◌<◌, ◌≤◌, ◌==◌, not, Bool, true, false, List, [], ◌∷◌, ◌++◌, length, get_or, set, sym, refl, ap, ◌∙◌, subst, arith}
use mathlib.Core.Option.{none, some, some-injective, some-ne-none}
use lib.ListN.{get_elem?}
use Rattle.std.proofs.lemmas.Bool.Decides.{nat_tests}
use Rattle.std.proofs.lemmas.List.{set-get_or}
use Rattle.atomic_table.specs.Table.{Me, Act, Valid, carried_after, stepped, step, keeps, Allows, Splits, Joins}
use Rattle.jm_base.specs.declared.types.Entry.{Entry}
use Rattle.jm_base.specs.SumTotals.{one_if}
use Rattle.interval_tables.specs.Rows.{sum_of, IsInBounds}
use Rattle.phaser_core.specs.declared.view.Numbers.{Numbers}
use Rattle.phaser_core.specs.declared.view.Stage.{Stage}
use Rattle.phaser_core.specs.declared.view.Stage.TheVariants.{Out, In, On}
use Rattle.phaser_core.specs.declared.view.ReporterStage.TheVariants.{Idle, Swapped, Cleared, Waiting, Harvest}
use Rattle.phaser_core.specs.declared.view.WriterView.{WriterView}
use Rattle.phaser_core.specs.declared.view.ReporterView.{ReporterView}
use Rattle.phaser_core.specs.declared.view.View.{View}
use Rattle.phaser_core.specs.declared.view.View.TheVariants.{Reporter, Writer}
use Rattle.phaser_core.specs.Cells.{is_odd, end_at, sums, column, part, folded, skips, vacant, place, cell_at, table_cells, word_count, row_at, report_from}
use Rattle.phaser_core.specs.Views.{AllJoined, joined_at}
use Rattle.phaser_core.specs.Shares.{entries_in, Partition, SumsOfStripes}
use Rattle.phaser_core.specs.CoreMoves.{Move, entering, loading, adding, leaving, swapping, clearing, flipping, looking, taking, looking_stop, raising_stop, raising_as_reporter, splitting, split_off, joining, no_one}
use Rattle.phaser_core.specs.Invariant.{RecorderInvariant, Keeps}
use Rattle.phaser_core.proofs.Lists.{set_again}
use Rattle.phaser_core.proofs.PhaseSteps.{end_low}
use Rattle.phaser_core.proofs.CellSteps.{place_in, place_cell, cell_in, column_low as column_six}
use Rattle.phaser_core.proofs.Steps.{enter_keeps, load_keeps, add_keeps, exit_keeps, look_stop_keeps, raise_keeps, split_keeps, load_knows, look_stop_knows, reader_is, labels_are, swap_keeps, clear_keeps, flip_keeps, look_keeps, take_keeps, raise_as_reporter_keeps, split_first_keeps, join_keeps, look_finds, swap_finds, clear_finds, stop_finds, take_sums, reports_sum, joined_bounds, joined_sums, others_gone}
use Rattle.phaser_core.proofs.Ends.{read_knows, partition_of, share_in}
use Rattle.phaser_words.proofs.Counts.{writers_counted}
use Rattle.phaser_words.proofs.Stopping.{stop_was_raised}
use Rattle.phaser_words.specs.RecorderKinds.{core_holds, writing_of, reading_of, waited_for, parity_in, taken_in, moved, adds_of, exits_of, enters, loads, adds, exits, swaps, clears, flips, looks, takes, watches, raises, reporter_raises, recalls, reads, CanEnd, Recalled, lists_of}

abbrev Sat : Type 0
Sat = Me (Unit {0}) View

-- a move that keeps the invariant wherever the seat has its view is allowed
moves : (n : Numbers) (slots id : ℕ) (me : Sat) (v : View) (move : Move) → me.0 ≡ v → ((ws : List ℕ) (vs : List View) → RecorderInvariant n ws vs → get_elem? vs id ≡ some v → Keeps n ws vs id move)
    → Allows (core_holds n) slots id me move.word move.change (moved move me)
moves n slots id me v move is kept s k _ at _ =
    (move.after (get_or s.words move.word 0), keeps, tt, kept s.words s.views k (subst (λ (u : View). get_elem? s.views id ≡ some u) is at), refl)

pub enter_allowed : (n : Numbers) (slots id : ℕ) (me : Sat) → me.0 ≡ Writer (writing_of me.0) → (writing_of me.0).stage ≡ Out → length (writing_of me.0).list < n.budget
    → Allows (core_holds n) slots id me 1 (λ x. (x + 1) % 2 ^ 64) (enters (step slots 1 1 0 none) me)
enter_allowed n slots id me is out room = let w : WriterView = writing_of me.0 in moves n slots id me (Writer w) (entering w) is (λ ws vs k at. enter_keeps n ws vs k id w at out room)

pub load_allowed : (n : Numbers) (slots id : ℕ) (me : Sat) (e : Entry) (p : Bool) → me.0 ≡ Writer (writing_of me.0) → (writing_of me.0).stage ≡ In p → e.label < n.labels → e.elapsed < 4294967296 → e.bytes < 4294967296
    → Allows (core_holds n) slots id me 0 (λ x. x) (loads e (step slots 0 0 0 none) me)
load_allowed n slots id me e p is inside label small small' s k _ at _ =
    let w : WriterView = writing_of me.0 in
    let at_w : get_elem? s.views id ≡ some (Writer w) = subst (λ (u : View). get_elem? s.views id ≡ some u) is at in
    let kept = load_keeps n s.words s.views k id w at_w p e inside label small small' in
    let low = load_knows n s.words s.views k id w at_w in
    let same : parity_in w.stage ≡ p = ap parity_in inside in
    ((loading w p e).after (get_or s.words 0 0), keeps, tt, kept, (ap (λ (q : Bool). ((loading w q e).after (get_or s.words 0 0), me.1)) (sym same), low))

pub add_allowed : (n : Numbers) (slots id : ℕ) (me : Sat) (p : Bool) (m : ℕ) (e : Entry) (d word amount : ℕ) → me.0 ≡ Writer (writing_of me.0) → (writing_of me.0).stage ≡ On p m e d → d < sums e
    → word ≡ place n.labels (m % 2) (writing_of me.0).number e.label (column e d) → amount ≡ part (column e d) e → Allows (core_holds n) slots id me word (λ x. folded (column e d) x amount) (adds (step slots word amount 0 none) me)
add_allowed n slots id me p m e d word amount is on more at_word is_amount = let w : WriterView = writing_of me.0 in
    subst (λ (s : Stage). Allows (core_holds n) slots id me word (λ x. folded (column e d) x amount) (moved (adds_of w s) me)) (sym on)
    (subst (λ (z : ℕ × ℕ). Allows (core_holds n) slots id me z.0 (λ x. folded (column e d) x z.1) (moved (adding n.labels w p m e d) me)) (λ i. (sym at_word i, sym is_amount i))
    (moves n slots id me (Writer w) (adding n.labels w p m e d) is (λ ws vs k at. add_keeps n ws vs k id w at p m e d on more)))

folded_sum : (c x y : ℕ) → c < 4 → folded c x y ≡ (x + y) % 2 ^ 64
folded_sum zero x y h = refl
folded_sum (suc zero) x y h = refl
folded_sum (suc (suc zero)) x y h = refl
folded_sum (suc (suc (suc zero))) x y h = refl
folded_sum (suc (suc (suc (suc c)))) x y h = absurd (omega arith)

-- the three kinds of step on a cell
pub sum_allowed : (n : Numbers) (slots id : ℕ) (me : Sat) (p : Bool) (m : ℕ) (e : Entry) (d word amount : ℕ) → me.0 ≡ Writer (writing_of me.0) → (writing_of me.0).stage ≡ On p m e d → d < sums e → column e d < 4
    → word ≡ place n.labels (m % 2) (writing_of me.0).number e.label (column e d) → amount ≡ part (column e d) e → Allows (core_holds n) slots id me word (λ x. (x + amount) % 2 ^ 64) (adds (step slots word amount 0 none) me)
sum_allowed n slots id me p m e d word amount is on more sum at_word is_amount =
    subst (λ (f : ℕ → ℕ). Allows (core_holds n) slots id me word f (adds (step slots word amount 0 none) me)) (λ i x. folded_sum (column e d) x amount sum i) (add_allowed n slots id me p m e d word amount is on more at_word is_amount)

pub least_allowed : (n : Numbers) (slots id : ℕ) (me : Sat) (p : Bool) (m : ℕ) (e : Entry) (d word amount : ℕ) → me.0 ≡ Writer (writing_of me.0) → (writing_of me.0).stage ≡ On p m e d → d < sums e → column e d ≡ 4
    → word ≡ place n.labels (m % 2) (writing_of me.0).number e.label (column e d) → amount ≡ part (column e d) e → Allows (core_holds n) slots id me word (λ x. min x amount) (adds (step slots word amount 0 none) me)
least_allowed n slots id me p m e d word amount is on more col at_word is_amount =
    subst (λ (c : ℕ). Allows (core_holds n) slots id me word (λ x. folded c x amount) (adds (step slots word amount 0 none) me)) col (add_allowed n slots id me p m e d word amount is on more at_word is_amount)

pub greatest_allowed : (n : Numbers) (slots id : ℕ) (me : Sat) (p : Bool) (m : ℕ) (e : Entry) (d word amount : ℕ) → me.0 ≡ Writer (writing_of me.0) → (writing_of me.0).stage ≡ On p m e d → d < sums e → column e d ≡ 5
    → word ≡ place n.labels (m % 2) (writing_of me.0).number e.label (column e d) → amount ≡ part (column e d) e → Allows (core_holds n) slots id me word (λ x. max x amount) (adds (step slots word amount 0 none) me)
greatest_allowed n slots id me p m e d word amount is on more col at_word is_amount =
    subst (λ (c : ℕ). Allows (core_holds n) slots id me word (λ x. folded c x amount) (adds (step slots word amount 0 none) me)) col (add_allowed n slots id me p m e d word amount is on more at_word is_amount)

sum_four : (f : Bool) (d : ℕ) → d < 3 + one_if f → skips f d < 4
sum_four true d h = omega arith
sum_four false zero h = omega arith
sum_four false (suc d) h = omega arith

pub sum_column : (e : Entry) (d : ℕ) → d < 3 + one_if (not e.ok) → column e d < 4
sum_column e d h = sum_four (not e.ok) d h

pub later_column : (f : Bool) (d k : ℕ) → 1 ≤ k → d ≡ k + one_if f → skips f d ≡ k + 1
later_column true d k low h = h
later_column false zero k low h = absurd (omega arith)
later_column false (suc d) k low h = omega arith

pub exit_allowed : (n : Numbers) (slots id : ℕ) (me : Sat) (p : Bool) (m : ℕ) (e : Entry) (d word : ℕ) → me.0 ≡ Writer (writing_of me.0) → (writing_of me.0).stage ≡ On p m e d → d ≡ sums e → word ≡ end_at p
    → Allows (core_holds n) slots id me word (λ x. (x + 1) % 2 ^ 64) (exits (step slots word 1 0 none) me)
exit_allowed n slots id me p m e d word is on all at_word = let w : WriterView = writing_of me.0 in
    subst (λ (s : Stage). Allows (core_holds n) slots id me word (λ x. (x + 1) % 2 ^ 64) (moved (exits_of w s) me)) (sym on)
    (subst (λ (z : ℕ). Allows (core_holds n) slots id me z (λ x. (x + 1) % 2 ^ 64) (moved (leaving w p m e) me)) (sym at_word)
    (moves n slots id me (Writer w) (leaving w p m e) is (λ ws vs k at. exit_keeps n ws vs k id w at p m e (on ∙ ap (λ (z : ℕ). On p m e z) all))))

pub watch_allowed : (n : Numbers) (slots id : ℕ) (me : Sat) → me.0 ≡ Writer (writing_of me.0) → Allows (core_holds n) slots id me 4 (λ x. x) (watches (step slots 4 0 0 none) me)
watch_allowed n slots id me is s k _ at _ =
    let w : WriterView = writing_of me.0 in
    let at_w : get_elem? s.views id ≡ some (Writer w) = subst (λ (u : View). get_elem? s.views id ≡ some u) is at in
    let knows = look_stop_knows n s.words s.views k id w at_w in
    ((looking_stop w).after (get_or s.words 4 0), keeps, tt, look_stop_keeps n s.words s.views k id w at_w, (refl, knows.0, knows.1, knows.2))

pub raise_allowed : (n : Numbers) (slots id : ℕ) (me : Sat) → me.0 ≡ Writer (writing_of me.0) → Allows (core_holds n) slots id me 4 (λ _. 1) (raises (step slots 4 1 0 none) me)
raise_allowed n slots id me is s k _ at _ =
    let w : WriterView = writing_of me.0 in
    let at_w : get_elem? s.views id ≡ some (Writer w) = subst (λ (u : View). get_elem? s.views id ≡ some u) is at in
    let knows = look_stop_knows n s.words s.views k id w at_w in
    ((raising_stop w).after (get_or s.words 4 0), keeps, tt, raise_keeps n s.words s.views k id w at_w, (refl, knows.0, knows.1, knows.2))

pub reporter_raise_allowed : (n : Numbers) (slots id : ℕ) (me : Sat) → me.0 ≡ Reporter (reading_of me.0) → Allows (core_holds n) slots id me 4 (λ _. 1) (reporter_raises (step slots 4 1 0 none) me)
reporter_raise_allowed n slots id me is s k _ at _ =
    let r : ReporterView = reading_of me.0 in
    let at_r : get_elem? s.views id ≡ some (Reporter r) = subst (λ (u : View). get_elem? s.views id ≡ some u) is at in
    let knows = stop_finds n s.words s.views k id r at_r in
    ((raising_as_reporter r).after (get_or s.words 4 0), keeps, tt, raise_as_reporter_keeps n s.words s.views k id r at_r, (refl, knows.0, knows.1, knows.2))

pub swap_allowed : (n : Numbers) (slots id : ℕ) (me : Sat) (new : ℕ) → me.0 ≡ Reporter (reading_of me.0) → (reading_of me.0).closing ≡ Idle → (reading_of me.0).interval < 16777216
    → new ≡ (reading_of me.0).interval + 1 → Allows (core_holds n) slots id me 0 (λ _. new) (swaps (step slots 0 new 0 none) me)
swap_allowed n slots id me new is idle few is_new = let r : ReporterView = reading_of me.0 in
    subst (λ (z : ℕ). Allows (core_holds n) slots id me 0 (λ _. z) (swaps (step slots 0 z 0 none) me)) (sym is_new)
    (λ s k _ at _. let at_r : get_elem? s.views id ≡ some (Reporter r) = subst (λ (u : View). get_elem? s.views id ≡ some u) is at in
    ((swapping r).after (get_or s.words 0 0), keeps, tt, swap_keeps n s.words s.views k id r at_r idle few, (refl, swap_finds n s.words s.views k id r at_r idle)))

pub clear_allowed : (n : Numbers) (slots id : ℕ) (me : Sat) (word new : ℕ) → me.0 ≡ Reporter (reading_of me.0) → (reading_of me.0).closing ≡ Swapped
    → word ≡ (clearing (reading_of me.0)).word → new ≡ (clearing (reading_of me.0)).change 0 → Allows (core_holds n) slots id me word (λ _. new) (clears (step slots word new 0 none) me)
clear_allowed n slots id me word new is swapped at_word is_new = let r : ReporterView = reading_of me.0 in
    subst (λ (z : ℕ × ℕ). Allows (core_holds n) slots id me z.0 (λ _. z.1) (clears (step slots z.0 z.1 0 none) me)) (λ i. (sym at_word i, sym is_new i))
    (λ s k _ at _. let at_r : get_elem? s.views id ≡ some (Reporter r) = subst (λ (u : View). get_elem? s.views id ≡ some u) is at in
    let knows = clear_finds n s.words s.views k id r at_r (is_odd (r.interval + 1)) in
    ((clearing r).after (get_or s.words (clearing r).word 0), keeps, tt, clear_keeps n s.words s.views k id r at_r swapped, (refl, knows.0, knows.1)))

pub flip_allowed : (n : Numbers) (slots id : ℕ) (me : Sat) (new : ℕ) → me.0 ≡ Reporter (reading_of me.0) → (reading_of me.0).closing ≡ Cleared
    → new ≡ (flipping (reading_of me.0)).change 0 → Allows (core_holds n) slots id me 1 (λ _. new) (flips (step slots 1 new 0 none) me)
flip_allowed n slots id me new is cleared is_new = let r : ReporterView = reading_of me.0 in
    subst (λ (z : ℕ). Allows (core_holds n) slots id me 1 (λ _. z) (flips (step slots 1 z 0 none) me)) (sym is_new)
    (moves n slots id me (Reporter r) (flipping r) is (λ ws vs k at. flip_keeps n ws vs k id r at cleared))

pub look_allowed : (n : Numbers) (slots id : ℕ) (me : Sat) (want word : ℕ) → me.0 ≡ Reporter (reading_of me.0) → (reading_of me.0).closing ≡ Waiting want
    → word ≡ (looking (reading_of me.0) want).word → Allows (core_holds n) slots id me word (λ x. x) (looks (step slots word 0 0 none) me)
look_allowed n slots id me want word is waiting at_word s k _ at _ =
    let r : ReporterView = reading_of me.0 in let m : Move = looking r want in let x : ℕ = get_or s.words m.word 0 in
    let at_r : get_elem? s.views id ≡ some (Reporter r) = subst (λ (u : View). get_elem? s.views id ≡ some u) is at in
    let kept : Keeps n s.words s.views id m = look_keeps n s.words s.views k id r at_r want waiting in
    let knows = look_finds n s.words s.views k id r at_r want waiting in
    let same : waited_for r.closing ≡ want = ap waited_for waiting in
    subst (λ (z : ℕ × ℕ). (w : View) × (a : Act (Unit {0})) × Valid s.homes me.1 a × core_holds n (stepped s z.0 (get_or s.words z.0 0) id me.1 w a)
    × (moved (looking r z.1) me (get_or s.words z.0 0) (w, carried_after me.1 a) × (get_or s.words z.0 0 ≤ z.1) × (AllJoined r → get_or s.words z.0 0 ≡ z.1))) (λ i. (sym at_word i, sym same i))
    (m.after x, keeps, tt, kept, (refl, knows.0, knows.1))

pub take_allowed : (n : Numbers) (slots id : ℕ) (me : Sat) (j word new : ℕ) → me.0 ≡ Reporter (reading_of me.0) → (reading_of me.0).closing ≡ Harvest j
    → word ≡ (taking (reading_of me.0) j).word → new ≡ vacant (j % 6) → Allows (core_holds n) slots id me word (λ _. new) (takes (step slots word new 0 none) me)
take_allowed n slots id me j word new is harvest at_word is_new = let r : ReporterView = reading_of me.0 in
    let same : taken_in r.closing ≡ j = ap taken_in harvest in
    subst (λ (z : ℕ × ℕ × ℕ). Allows (core_holds n) slots id me z.0 (λ _. z.1) (λ found m'. moved (taking r z.2) me found m' × SumsOfStripes r.labels (length (r.cells ++ found ∷ [])) (λ i. get_or (r.cells ++ found ∷ []) i 0)))
    (λ i. (sym at_word i, sym is_new i, sym same i))
    (λ s k _ at _. let at_r : get_elem? s.views id ≡ some (Reporter r) = subst (λ (u : View). get_elem? s.views id ≡ some u) is at in
    ((taking r j).after (get_or s.words (taking r j).word 0), keeps, tt, take_keeps n s.words s.views k id r at_r j harvest, (refl, take_sums n s.words s.views k id r at_r j harvest)))

-- Seats that are made, and one that is joined

pub makes_first : (n : Numbers) (id : ℕ) (v : View) (r : ReporterView) → v ≡ Reporter r → r.ready ≡ false → Splits (core_holds n) id v (splitting v) (split_off v)
makes_first n id v r is fresh = subst (λ (u : View). Splits (core_holds n) id u (splitting u) (split_off u)) (sym is)
    (λ s k at. split_first_keeps n s.words s.views k id r at fresh)

pub makes_more : (n : Numbers) (id : ℕ) (v : View) (w : WriterView) → v ≡ Writer w → 0 < w.made → w.made < n.writers → Splits (core_holds n) id v (splitting v) (split_off v)
makes_more n id v w is some_made room = subst (λ (u : View). Splits (core_holds n) id u (splitting u) (split_off u)) (sym is)
    (λ s k at. split_keeps n s.words s.views k id w at some_made room)

pub takes_in : (n : Numbers) (id : ℕ) (v : View) (other : ℕ) (u : View) (r : ReporterView) (w : WriterView) → v ≡ Reporter r → u ≡ Writer w → w.stage ≡ Out → Joins (core_holds n) id v other u (joining v u) no_one
takes_in n id v other u r w is is' out = subst (λ (z : View × View). Joins (core_holds n) id z.0 other z.1 (joining z.0 z.1) no_one) (λ i. (sym is i, sym is' i))
    (λ s k at two at'. join_keeps n s.words s.views k id r at other w two at' out)

-- Where words stand

-- an end word is one of the words
pub end_inside : (p : Bool) (i words labels : ℕ) → words ≡ word_count labels → i ≡ end_at p → i < words
end_inside p i words labels wide is = let low = end_low p in omega arith

-- a cell is one of the words
pub cell_inside : (n : Numbers) (i j word words : ℕ) → words ≡ word_count n.labels → j < table_cells n.labels → word ≡ cell_at n.labels i j → word < words
cell_inside n i j word words wide low is = let p = place_in n i j low in omega arith

pub place_inside : (n : Numbers) (m w l c word words : ℕ) → words ≡ word_count n.labels → l < n.labels → c < 6 → word ≡ place n.labels (m % 2) w l c → word < words
place_inside n m w l c word words wide label column is =
    cell_inside n m (6 * row_at n.labels w l + c) word words wide (cell_in n.labels w l c label column) (is ∙ place_cell n.labels m w l c)

pub column_low : (e : Entry) (d : ℕ) → d < sums e → column e d < 6
column_low e d more = column_six (not e.ok) d more

one_low : (b : Bool) → one_if b ≤ 1
one_low true = omega arith
one_low false = omega arith

pub steps_low : (e : Entry) (d : ℕ) → d < sums e → d ≤ 6
steps_low e d more = let o = one_low (not e.ok) in omega arith

pub even_next : (m : ℕ) → (m % 2 == 0) ≡ is_odd (m + 1)
even_next m = grind (arith, nat_tests)

pub read_at : (l : List ℕ) (i a : ℕ) → get_elem? l i ≡ some a → a ≡ get_or l i 0
read_at [] i a e = absurd (some-ne-none a (sym e))
read_at (x ∷ xs) zero a e = sym (some-injective x a e)
read_at (x ∷ xs) (suc i) a e = read_at xs i a e

-- The words at the end

-- the reporter's seat has port 0
pub front_of : (n : Numbers) (ws : List ℕ) (vs : List View) (id : ℕ) (r : ReporterView) → RecorderInvariant n ws vs → get_elem? vs id ≡ some (Reporter r) → get_elem? vs 0 ≡ some (Reporter r)
front_of n ws vs id r k at = k.reporter ∙ ap (λ (q : ReporterView). some (Reporter q)) (reader_is n ws vs k id r at)

-- Loads by which the reporter learns

unmoved : (n : Numbers) (ws : List ℕ) (vs : List View) (word id : ℕ) (v : View) → RecorderInvariant n ws vs → get_elem? vs id ≡ some v → RecorderInvariant n (set ws word (get_or ws word 0)) (set vs id v)
unmoved n ws vs word id v k at = subst (λ (z : List ℕ × List View). RecorderInvariant n z.0 z.1) (λ i. (sym (set-get_or ws word 0) i, sym (set_again vs id v at) i)) k

parted : (n : Numbers) (ws : List ℕ) (vs : List View) (id : ℕ) (r : ReporterView) → RecorderInvariant n ws vs → get_elem? vs id ≡ some (Reporter r) → r.closing ≡ Idle → AllJoined r → CanEnd r
parted n ws vs id r k at idle all f cells =
    let e = read_knows n ws vs k r (front_of n ws vs id r k at) idle (others_gone n ws vs k id r at all) in
    let labels = labels_are n ws vs k id r at in
    subst (λ (l : ℕ). Partition l (lists_of r.joined) (r.closed ++ report_from l r.interval f ∷ [])) (sym labels)
    (partition_of n.labels r f e.0 e.1 (subst (λ (l : ℕ). (j : ℕ) → j < table_cells l → f j ≡ joined_at l r.interval j r.joined) labels cells) e.3 e.4)

in_bounds : (n : Numbers) (ws : List ℕ) (vs : List View) (id : ℕ) (r : ReporterView) → RecorderInvariant n ws vs → get_elem? vs id ≡ some (Reporter r) → (m : ℕ) → IsInBounds (sum_of n.labels (entries_in m (lists_of r.joined)))
in_bounds n ws vs id r k at m = subst (λ (es : List Entry). IsInBounds (sum_of n.labels es)) (share_in m r.joined) (joined_bounds n ws vs k id r at m)

pub recall_allowed : (n : Numbers) (m : Numbers) (slots id : ℕ) (me : Sat) → m ≡ n → me.0 ≡ Reporter (reading_of me.0) → Allows (core_holds n) slots id me 0 (λ x. x) (recalls m (step slots 0 0 0 none) me)
recall_allowed n m slots id me same is s k _ at _ =
    let r : ReporterView = reading_of me.0 in
    let at_r : get_elem? s.views id ≡ some (Reporter r) = subst (λ (u : View). get_elem? s.views id ≡ some u) is at in
    let knows : Recalled n r = record { sums = reports_sum n s.words s.views k id r at_r; counts = writers_counted n s.words s.views k id r at_r; bounds = in_bounds n s.words s.views id r k at_r; stripes = joined_sums n s.words s.views k id r at_r; ends = parted n s.words s.views id r k at_r; stop = stop_was_raised n s.words s.views k r (front_of n s.words s.views id r k at_r) } in
    (me.0, keeps, tt, unmoved n s.words s.views 0 id me.0 k at, (refl, subst (λ (z : Numbers). Recalled z r) (sym same) knows))

pub read_allowed : (n : Numbers) (slots id : ℕ) (me : Sat) (j p word : ℕ) → p ≡ j → me.0 ≡ Reporter (reading_of me.0) → (reading_of me.0).closing ≡ Idle → AllJoined (reading_of me.0) → j < table_cells n.labels
    → (reading_of me.0).labels ≡ n.labels → word ≡ cell_at n.labels (reading_of me.0).interval j → Allows (core_holds n) slots id me word (λ x. x) (reads p (step slots word 0 0 none) me)
read_allowed n slots id me j p word same is idle all low labels at_word s k _ at _ =
    let r : ReporterView = reading_of me.0 in
    let at_r : get_elem? s.views id ≡ some (Reporter r) = subst (λ (u : View). get_elem? s.views id ≡ some u) is at in
    let e = (read_knows n s.words s.views k r (front_of n s.words s.views id r k at_r) idle (others_gone n s.words s.views k id r at_r all)).2 j low in (
      me.0,
      keeps,
      tt,
      unmoved n s.words s.views word id me.0 k at,
      (refl, ap (λ (i : ℕ). get_or s.words i 0) at_word ∙ e ∙ (λ i. joined_at (sym labels i) r.interval (sym same i) r.joined)),
    )
