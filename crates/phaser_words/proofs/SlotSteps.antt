-- What each call's step asks of the table, on the slot of its word.
use Rattle.std.specs.Prelude.{min, max}
use Rattle.std.proofs.Common.{◌≡◌, ℕ, ◌+◌, ◌%◌, ◌^◌, ◌<◌, Bool, length, sym, refl, ap, subst, arith}
use mathlib.Core.Option.{none}
use Rattle.atomic_table.specs.Table.{Me, step, Allows}
use Rattle.jm_base.specs.declared.types.Entry.{Entry}
use Rattle.phaser_core.specs.declared.view.Numbers.{Numbers}
use Rattle.phaser_core.specs.declared.view.Stage.TheVariants.{Out, In, On}
use Rattle.phaser_core.specs.declared.view.ReporterStage.TheVariants.{Idle, Swapped, Cleared, Waiting, Harvest}
use Rattle.phaser_core.specs.declared.view.View.{View}
use Rattle.phaser_core.specs.declared.view.View.TheVariants.{Reporter, Writer}
use Rattle.phaser_core.specs.Cells.{end_at, sums, column, part, vacant, place, cell_at, table_cells, word_count}
use Rattle.phaser_core.specs.Views.{AllJoined}
use Rattle.phaser_core.specs.CoreMoves.{clearing, flipping, looking, taking}
use Rattle.phaser_core.proofs.PhaseSteps.{end_low}
use Rattle.phaser_words.specs.Spacing.{slot, slot_count}
use Rattle.phaser_words.specs.RecorderKinds.{core_holds, holds_of, writing_of, reading_of, enters, loads, adds, exits, swaps, clears, flips, looks, takes, watches, raises, reporter_raises, recalls, reads}
use Rattle.phaser_words.proofs.Allowed.{enter_allowed, load_allowed, sum_allowed, least_allowed, greatest_allowed, exit_allowed, watch_allowed, raise_allowed, reporter_raise_allowed, swap_allowed, clear_allowed, flip_allowed, look_allowed, take_allowed, recall_allowed, read_allowed, place_inside, cell_inside, column_low}
use Rattle.phaser_words.proofs.Spaced.{slot_low, on_slot}

abbrev Sat : Type 0
Sat = Me (Unit {0}) View

-- the slot of a word, where it is known by an equation
at_slot : (n : Numbers) (slots id : ℕ) (me : Sat) (word at : ℕ) (change : ℕ → ℕ) (told : ℕ → Sat → Type 0) → at ≡ slot word → word < word_count n.labels
    → Allows (core_holds n) slots id me word change told → Allows (holds_of n) slots id me at change told
at_slot n slots id me word at change told is low allowed = subst (λ (i : ℕ). Allows (holds_of n) slots id me i change told) (sym is) (on_slot n slots id me word change told low allowed)

-- a slot of a word is one of the slots
pub slot_inside : (labels word at slots : ℕ) → slots ≡ slot_count labels → word < word_count labels → at ≡ slot word → at < slots
slot_inside labels word at slots wide low is = let inside = slot_low word labels low in omega arith

pub end_word_low : (p : Bool) (labels : ℕ) → end_at p < word_count labels
end_word_low p labels = let low = end_low p in omega arith

pub place_low : (n : Numbers) (m w : ℕ) (e : Entry) (d : ℕ) → e.label < n.labels → d < sums e → place n.labels (m % 2) w e.label (column e d) < word_count n.labels
place_low n m w e d label more = place_inside n m w e.label (column e d) _ _ refl label (column_low e d more) refl

pub cell_low : (n : Numbers) (i j : ℕ) → j < table_cells n.labels → cell_at n.labels i j < word_count n.labels
cell_low n i j low = cell_inside n i j _ _ refl low refl

-- The steps of a writer

pub enter_on_slot : (n : Numbers) (slots id : ℕ) (me : Sat) → me.0 ≡ Writer (writing_of me.0) → (writing_of me.0).stage ≡ Out → length (writing_of me.0).list < n.budget
    → Allows (holds_of n) slots id me 16 (λ x. (x + 1) % 2 ^ 64) (enters (step slots 16 1 0 none) me)
enter_on_slot n slots id me is out room = on_slot n slots id me 1 (λ x. (x + 1) % 2 ^ 64) (enters (step slots 1 1 0 none) me) (omega arith) (enter_allowed n slots id me is out room)

pub load_on_slot : (n : Numbers) (slots id : ℕ) (me : Sat) (e : Entry) (p : Bool) → me.0 ≡ Writer (writing_of me.0) → (writing_of me.0).stage ≡ In p → e.label < n.labels → e.elapsed < 4294967296 → e.bytes < 4294967296
    → Allows (holds_of n) slots id me 0 (λ x. x) (loads e (step slots 0 0 0 none) me)
load_on_slot n slots id me e p is inside label small small' = on_slot n slots id me 0 (λ x. x) (loads e (step slots 0 0 0 none) me) (omega arith) (load_allowed n slots id me e p is inside label small small')

pub sum_on_slot : (n : Numbers) (slots id : ℕ) (me : Sat) (p : Bool) (m : ℕ) (e : Entry) (d at amount : ℕ) → me.0 ≡ Writer (writing_of me.0) → (writing_of me.0).stage ≡ On p m e d → d < sums e → column e d < 4 → e.label < n.labels
    → at ≡ slot (place n.labels (m % 2) (writing_of me.0).number e.label (column e d)) → amount ≡ part (column e d) e → Allows (holds_of n) slots id me at (λ x. (x + amount) % 2 ^ 64) (adds (step slots at amount 0 none) me)
sum_on_slot n slots id me p m e d at amount is on more sum label here is_amount =
    let w : ℕ = (writing_of me.0).number in let word : ℕ = place n.labels (m % 2) w e.label (column e d) in
    at_slot n slots id me word at (λ x. (x + amount) % 2 ^ 64) (adds (step slots at amount 0 none) me) here (place_low n m w e d label more)
    (sum_allowed n slots id me p m e d word amount is on more sum refl is_amount)

pub least_on_slot : (n : Numbers) (slots id : ℕ) (me : Sat) (p : Bool) (m : ℕ) (e : Entry) (d at amount : ℕ) → me.0 ≡ Writer (writing_of me.0) → (writing_of me.0).stage ≡ On p m e d → d < sums e → column e d ≡ 4 → e.label < n.labels
    → at ≡ slot (place n.labels (m % 2) (writing_of me.0).number e.label (column e d)) → amount ≡ part (column e d) e → Allows (holds_of n) slots id me at (λ x. min x amount) (adds (step slots at amount 0 none) me)
least_on_slot n slots id me p m e d at amount is on more col label here is_amount =
    let w : ℕ = (writing_of me.0).number in let word : ℕ = place n.labels (m % 2) w e.label (column e d) in
    at_slot n slots id me word at (λ x. min x amount) (adds (step slots at amount 0 none) me) here (place_low n m w e d label more)
    (least_allowed n slots id me p m e d word amount is on more col refl is_amount)

pub greatest_on_slot : (n : Numbers) (slots id : ℕ) (me : Sat) (p : Bool) (m : ℕ) (e : Entry) (d at amount : ℕ) → me.0 ≡ Writer (writing_of me.0) → (writing_of me.0).stage ≡ On p m e d → d < sums e → column e d ≡ 5 → e.label < n.labels
    → at ≡ slot (place n.labels (m % 2) (writing_of me.0).number e.label (column e d)) → amount ≡ part (column e d) e → Allows (holds_of n) slots id me at (λ x. max x amount) (adds (step slots at amount 0 none) me)
greatest_on_slot n slots id me p m e d at amount is on more col label here is_amount =
    let w : ℕ = (writing_of me.0).number in let word : ℕ = place n.labels (m % 2) w e.label (column e d) in
    at_slot n slots id me word at (λ x. max x amount) (adds (step slots at amount 0 none) me) here (place_low n m w e d label more)
    (greatest_allowed n slots id me p m e d word amount is on more col refl is_amount)

pub exit_on_slot : (n : Numbers) (slots id : ℕ) (me : Sat) (p : Bool) (m : ℕ) (e : Entry) (d at : ℕ) → me.0 ≡ Writer (writing_of me.0) → (writing_of me.0).stage ≡ On p m e d → d ≡ sums e → at ≡ slot (end_at p)
    → Allows (holds_of n) slots id me at (λ x. (x + 1) % 2 ^ 64) (exits (step slots at 1 0 none) me)
exit_on_slot n slots id me p m e d at is on all here =
    at_slot n slots id me (end_at p) at (λ x. (x + 1) % 2 ^ 64) (exits (step slots at 1 0 none) me) here (end_word_low p n.labels) (exit_allowed n slots id me p m e d (end_at p) is on all refl)

pub watch_on_slot : (n : Numbers) (slots id : ℕ) (me : Sat) → me.0 ≡ Writer (writing_of me.0) → Allows (holds_of n) slots id me 32 (λ x. x) (watches (step slots 32 0 0 none) me)
watch_on_slot n slots id me is = on_slot n slots id me 4 (λ x. x) (watches (step slots 4 0 0 none) me) (omega arith) (watch_allowed n slots id me is)

pub raise_on_slot : (n : Numbers) (slots id : ℕ) (me : Sat) → me.0 ≡ Writer (writing_of me.0) → Allows (holds_of n) slots id me 32 (λ _. 1) (raises (step slots 32 1 0 none) me)
raise_on_slot n slots id me is = on_slot n slots id me 4 (λ _. 1) (raises (step slots 4 1 0 none) me) (omega arith) (raise_allowed n slots id me is)

-- The steps of the reporter

pub reporter_raise_on_slot : (n : Numbers) (slots id : ℕ) (me : Sat) → me.0 ≡ Reporter (reading_of me.0) → Allows (holds_of n) slots id me 32 (λ _. 1) (reporter_raises (step slots 32 1 0 none) me)
reporter_raise_on_slot n slots id me is = on_slot n slots id me 4 (λ _. 1) (reporter_raises (step slots 4 1 0 none) me) (omega arith) (reporter_raise_allowed n slots id me is)

pub swap_on_slot : (n : Numbers) (slots id : ℕ) (me : Sat) (new : ℕ) → me.0 ≡ Reporter (reading_of me.0) → (reading_of me.0).closing ≡ Idle → (reading_of me.0).interval < 16777216
    → new ≡ (reading_of me.0).interval + 1 → Allows (holds_of n) slots id me 0 (λ _. new) (swaps (step slots 0 new 0 none) me)
swap_on_slot n slots id me new is idle few is_new = on_slot n slots id me 0 (λ _. new) (swaps (step slots 0 new 0 none) me) (omega arith) (swap_allowed n slots id me new is idle few is_new)

pub clear_on_slot : (n : Numbers) (slots id : ℕ) (me : Sat) (p : Bool) (at new : ℕ) → me.0 ≡ Reporter (reading_of me.0) → (reading_of me.0).closing ≡ Swapped
    → at ≡ slot (end_at p) → end_at p ≡ (clearing (reading_of me.0)).word → new ≡ (clearing (reading_of me.0)).change 0 → Allows (holds_of n) slots id me at (λ _. new) (clears (step slots at new 0 none) me)
clear_on_slot n slots id me p at new is swapped here at_word is_new =
    at_slot n slots id me (end_at p) at (λ _. new) (clears (step slots at new 0 none) me) here (end_word_low p n.labels) (clear_allowed n slots id me (end_at p) new is swapped at_word is_new)

pub flip_on_slot : (n : Numbers) (slots id : ℕ) (me : Sat) (new : ℕ) → me.0 ≡ Reporter (reading_of me.0) → (reading_of me.0).closing ≡ Cleared
    → new ≡ (flipping (reading_of me.0)).change 0 → Allows (holds_of n) slots id me 16 (λ _. new) (flips (step slots 16 new 0 none) me)
flip_on_slot n slots id me new is cleared is_new = on_slot n slots id me 1 (λ _. new) (flips (step slots 1 new 0 none) me) (omega arith) (flip_allowed n slots id me new is cleared is_new)

pub look_on_slot : (n : Numbers) (slots id : ℕ) (me : Sat) (want : ℕ) (p : Bool) (at : ℕ) → me.0 ≡ Reporter (reading_of me.0) → (reading_of me.0).closing ≡ Waiting want
    → at ≡ slot (end_at p) → end_at p ≡ (looking (reading_of me.0) want).word → Allows (holds_of n) slots id me at (λ x. x) (looks (step slots at 0 0 none) me)
look_on_slot n slots id me want p at is waiting here at_word =
    at_slot n slots id me (end_at p) at (λ x. x) (looks (step slots at 0 0 none) me) here (end_word_low p n.labels) (look_allowed n slots id me want (end_at p) is waiting at_word)

pub take_on_slot : (n : Numbers) (slots id : ℕ) (me : Sat) (i j at new : ℕ) → me.0 ≡ Reporter (reading_of me.0) → (reading_of me.0).closing ≡ Harvest j → j < table_cells n.labels
    → at ≡ slot (cell_at n.labels i j) → cell_at n.labels i j ≡ (taking (reading_of me.0) j).word → new ≡ vacant (j % 6) → Allows (holds_of n) slots id me at (λ _. new) (takes (step slots at new 0 none) me)
take_on_slot n slots id me i j at new is harvest low here at_word is_new =
    at_slot n slots id me (cell_at n.labels i j) at (λ _. new) (takes (step slots at new 0 none) me) here (cell_low n i j low) (take_allowed n slots id me j (cell_at n.labels i j) new is harvest at_word is_new)

pub recall_on_slot : (n : Numbers) (m : Numbers) (slots id : ℕ) (me : Sat) → m ≡ n → me.0 ≡ Reporter (reading_of me.0) → Allows (holds_of n) slots id me 0 (λ x. x) (recalls m (step slots 0 0 0 none) me)
recall_on_slot n m slots id me same is = on_slot n slots id me 0 (λ x. x) (recalls m (step slots 0 0 0 none) me) (omega arith) (recall_allowed n m slots id me same is)

pub read_on_slot : (n : Numbers) (slots id : ℕ) (me : Sat) (i j p at : ℕ) → p ≡ j → me.0 ≡ Reporter (reading_of me.0) → (reading_of me.0).closing ≡ Idle → AllJoined (reading_of me.0) → j < table_cells n.labels
    → (reading_of me.0).labels ≡ n.labels → at ≡ slot (cell_at n.labels i j) → i ≡ (reading_of me.0).interval → Allows (holds_of n) slots id me at (λ x. x) (reads p (step slots at 0 0 none) me)
read_on_slot n slots id me i j p at same is idle all low labels here now =
    at_slot n slots id me (cell_at n.labels i j) at (λ x. x) (reads p (step slots at 0 0 none) me) here (cell_low n i j low)
    (read_allowed n slots id me j p (cell_at n.labels i j) same is idle all low labels (ap (λ (k : ℕ). cell_at n.labels k j) now))
