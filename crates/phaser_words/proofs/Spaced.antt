-- The words stand apart in the table, each in a slot of its own: what the rule allows on a word it allows on its slot.
use Rattle.std.proofs.Common.{◌≡◌, ◌≢◌, ℕ, zero, suc, ◌+◌, ◌-◌, ◌*◌, ◌/◌, ◌%◌, ◌<◌, ◌≤◌, nat_lt, Bool, true, false, List, [], ◌∷◌, length, get_or, set, length-set, sym, refl, ap, ◌∙◌, subst, arith}
use mathlib.Core.Option.{some}
use lib.ListN.{get_elem?}
use lib.Seq.{get_or-set_same, get_or-set_other, ext_get_or}
use Rattle.std.proofs.lemmas.Bool.Decides.{nat_tests}
use Rattle.atomic_table.specs.Table.{State, Me, carried_after, Allows, Splits, Joins, opening, Final, Seen}
use Rattle.phaser_core.specs.declared.view.Numbers.{Numbers}
use Rattle.phaser_core.specs.declared.view.ReporterView.{ReporterView}
use Rattle.phaser_core.specs.declared.view.View.{View}
use Rattle.phaser_core.specs.declared.view.View.TheVariants.{Reporter, Gone}
use Rattle.phaser_core.specs.Cells.{column, word_count}
use Rattle.phaser_core.specs.Views.{IsSized, AllJoined}
use Rattle.phaser_core.specs.CoreMoves.{first_words}
use Rattle.phaser_core.specs.Invariant.{RecorderInvariant}
use Rattle.phaser_core.proofs.Steps.{others_gone, opens_keeps}
use Rattle.phaser_words.specs.Spacing.{slot, slot_count, values, words_in}
use Rattle.phaser_words.specs.RecorderKinds.{core_holds, holds_of, first_view}
use Rattle.phaser_words.proofs.Allowed.{front_of}

abbrev Sat : Type 0
Sat = Me (Unit {0}) View

-- Each word has a slot of its own.

pub slot_cell : (word : ℕ) → 5 ≤ word → slot word ≡ 48 + (16 * ((word - 5) / 6) + (word - 5) % 6)
slot_cell zero low = absurd (omega arith)
slot_cell (suc zero) low = absurd (omega arith)
slot_cell (suc (suc zero)) low = absurd (omega arith)
slot_cell (suc (suc (suc zero))) low = absurd (omega arith)
slot_cell (suc (suc (suc (suc zero)))) low = absurd (omega arith)
slot_cell (suc (suc (suc (suc (suc cell))))) low = omega arith

pub slot_row : (row column : ℕ) → column < 6 → slot (5 + row * 6 + column) ≡ 48 + (16 * row + column)
slot_row row column low = slot_cell (5 + row * 6 + column) (omega arith) ∙ omega arith

pub slot_low : (word labels : ℕ) → word < word_count labels → slot word < slot_count labels
slot_low zero labels low = omega arith
slot_low (suc zero) labels low = omega arith
slot_low (suc (suc zero)) labels low = omega arith
slot_low (suc (suc (suc zero))) labels low = omega arith
slot_low (suc (suc (suc (suc zero)))) labels low = omega arith
slot_low (suc (suc (suc (suc (suc cell))))) labels low = omega arith

rises : (word : ℕ) → slot word < slot (suc word)
rises zero = omega arith
rises (suc zero) = omega arith
rises (suc (suc zero)) = omega arith
rises (suc (suc (suc zero))) = omega arith
rises (suc (suc (suc (suc zero)))) = omega arith
rises (suc (suc (suc (suc (suc cell))))) = omega arith

rises_by : (word steps : ℕ) → slot word < slot (word + suc steps)
rises_by word zero = let next : suc word ≡ word + suc zero = omega arith in subst (λ (n : ℕ). slot word < slot n) next (rises word)
rises_by word (suc steps) =
    let up = rises_by word steps in let next = rises (word + suc steps) in let at : suc (word + suc steps) ≡ word + suc (suc steps) = omega arith in
    subst (λ (n : ℕ). slot word < slot n) at (omega arith)

rises_to : (word other : ℕ) → word < other → slot word < slot other
rises_to word other low = let at : word + suc (other - suc word) ≡ other = omega arith in subst (λ (n : ℕ). slot word < slot n) at (rises_by word (other - suc word))

apart_where : (word other : ℕ) (b : Bool) → nat_lt word other ≡ b → word ≢ other → slot word ≢ slot other
apart_where word other true h ne same = let low : word < other = grind (arith, nat_tests) in let up = rises_to word other low in omega arith
apart_where word other false h ne same = let low : other < word = grind (arith, nat_tests) in let up = rises_to other word low in omega arith

apart : (word other : ℕ) → word ≢ other → slot word ≢ slot other
apart word other ne = apart_where word other (nat_lt word other) refl ne

-- The words in the slots

long : (f : ℕ → ℕ) (n : ℕ) → length (values f n) ≡ n
unfolding values
long f zero = refl
long f (suc n) = ap suc (long (λ i. f (suc i)) n)

value : (f : ℕ → ℕ) (n i : ℕ) → i < n → get_or (values f n) i 0 ≡ f i
unfolding values
value f zero i low = absurd (omega arith)
value f (suc n) zero low = refl
value f (suc n) (suc i) low = value (λ j. f (suc j)) n i (omega arith)

same_values : (f g : ℕ → ℕ) (n : ℕ) → ((i : ℕ) → g i ≡ f i) → values g n ≡ values f n
unfolding values
same_values f g zero are = refl
same_values f g (suc n) are = λ i. are 0 i ∷ same_values (λ j. f (suc j)) (λ j. g (suc j)) n (λ j. are (suc j)) i

set_value : (f g : ℕ → ℕ) (n at x : ℕ) → g at ≡ x → ((i : ℕ) → i ≢ at → g i ≡ f i) → values g n ≡ set (values f n) at x
unfolding values
set_value f g zero at x is others = refl
set_value f g (suc n) zero x is others = λ i. is i ∷ same_values (λ j. f (suc j)) (λ j. g (suc j)) n (λ j. others (suc j) (λ e. omega arith)) i
set_value f g (suc n) (suc at) x is others = λ i. others 0 (λ e. omega arith) i ∷ set_value (λ j. f (suc j)) (λ j. g (suc j)) n at x is (λ j ne. others (suc j) (λ e. ne (omega arith))) i

pub words_long : (labels : ℕ) (slots : List ℕ) → length (words_in labels slots) ≡ word_count labels
unfolding words_in
words_long labels slots = long (λ word. get_or slots (slot word) 0) (word_count labels)

pub word_in : (labels : ℕ) (slots : List ℕ) (word : ℕ) → word < word_count labels → get_or (words_in labels slots) word 0 ≡ get_or slots (slot word) 0
unfolding words_in
word_in labels slots word low = value (λ w. get_or slots (slot w) 0) (word_count labels) word low

word_set : (labels : ℕ) (slots : List ℕ) (word x : ℕ) → word < word_count labels → length slots ≡ slot_count labels → words_in labels (set slots (slot word) x) ≡ set (words_in labels slots) word x
unfolding words_in
word_set labels slots word x low wide =
    let inside = slot_low word labels low in
    set_value (λ w. get_or slots (slot w) 0) (λ w. get_or (set slots (slot word) x) (slot w) 0) (word_count labels) word x
    (get_or-set_same slots (slot word) x 0 (omega arith)) (λ i ne. get_or-set_other slots (slot word) (slot i) x 0 (apart i word ne))

-- words that are copied to their slots are the words in them
pub words_copied : (labels : ℕ) (slots words : List ℕ) → length words ≡ word_count labels → ((i : ℕ) → i < length words → get_or slots (slot i) 0 ≡ get_or words i 0) → words_in labels slots ≡ words
words_copied labels slots words wide are =
    let count = words_long labels slots in
    ext_get_or 0 (words_in labels slots) words (count ∙ sym wide) (λ i low. word_in labels slots i (omega arith) ∙ are i (omega arith))

-- the slots of the words before a place are written, and those of the next one
pub copied_further : (slots words : List ℕ) (labels at : ℕ) → length slots ≡ slot_count labels → at < word_count labels → ((i : ℕ) → i < at → get_or slots (slot i) 0 ≡ get_or words i 0)
    → (i : ℕ) → i < at + 1 → get_or (set slots (slot at) (get_or words at 0)) (slot i) 0 ≡ get_or words i 0
copied_further slots words labels at wide low are i upto = copied_where (nat_lt i at) refl
  where
    copied_where : (b : Bool) → nat_lt i at ≡ b → get_or (set slots (slot at) (get_or words at 0)) (slot i) 0 ≡ get_or words i 0
    copied_where true h = let before : i < at = grind (arith, nat_tests) in get_or-set_other slots (slot at) (slot i) (get_or words at 0) 0 (apart i at (λ e. omega arith)) ∙ are i before
    copied_where false h =
        let here : i ≡ at = grind (arith, nat_tests) in let inside = slot_low at labels low in
        subst (λ (j : ℕ). get_or (set slots (slot at) (get_or words at 0)) (slot j) 0 ≡ get_or words j 0) (sym here) (get_or-set_same slots (slot at) (get_or words at 0) 0 (omega arith))

-- What is allowed on a word is allowed on its slot.

seen : Numbers → State (Unit {0}) View → State (Unit {0}) View
seen n s = record { words = words_in n.labels s.words; homes = s.homes; views = s.views }

pub on_slot : (n : Numbers) (slots id : ℕ) (me : Sat) (word : ℕ) (change : ℕ → ℕ) (told : ℕ → Sat → Type 0) → word < word_count n.labels
    → Allows (core_holds n) slots id me word change told → Allows (holds_of n) slots id me (slot word) change told
unfolding seen
on_slot n slots id me word change told low allowed s k homes at small =
    let reads = word_in n.labels s.words word low in
    let a = allowed (seen n s) k.1 homes at (subst (λ (x : ℕ). x < 18446744073709551616) (sym reads) small) in
    let words = ap (λ (x : ℕ). set (words_in n.labels s.words) word (change x)) reads ∙ sym (word_set n.labels s.words word (change (get_or s.words (slot word) 0)) low k.0) in (
      a.0,
      a.1,
      a.2,
      (length-set s.words (slot word) (change (get_or s.words (slot word) 0)) ∙ k.0, subst (λ (ws : List ℕ). RecorderInvariant n ws (set s.views id a.0)) words a.3),
      subst (λ (x : ℕ). told x (a.0, carried_after me.1 a.1)) reads a.4,
    )

pub split_on_slots : (n : Numbers) (id : ℕ) (v left right : View) → Splits (core_holds n) id v left right → Splits (holds_of n) id v left right
unfolding seen
split_on_slots n id v left right splits s k at = (k.0, splits (seen n s) k.1 at)

pub join_on_slots : (n : Numbers) (id : ℕ) (v : View) (other : ℕ) (u both spent : View) → Joins (core_holds n) id v other u both spent → Joins (holds_of n) id v other u both spent
unfolding seen
join_on_slots n id v other u both spent joins s k at two at' = (k.0, joins (seen n s) k.1 at two at')

-- The words at the start, and at the end

pub begins : (n : Numbers) (slots : List ℕ) → IsSized n → length slots ≡ slot_count n.labels → words_in n.labels slots ≡ first_words n.labels → holds_of n (opening slots [] (first_view n))
begins n slots sized wide are = (wide, subst (λ (ws : List ℕ). RecorderInvariant n ws (first_view n ∷ [])) (sym are) (opens_keeps n sized))

pub closes : (n : Numbers) (id : ℕ) (v : View) (r : ReporterView) (slots : List ℕ) (xs : List (Unit {0})) → Final (Seen (holds_of n) id v) slots xs → v ≡ Reporter r → AllJoined r
    → (views : List View) × RecorderInvariant n (words_in n.labels slots) views × (get_elem? views 0 ≡ some (Reporter r)) × ((port : ℕ) (u : View) → port ≢ 0 → get_elem? views port ≡ some u → u ≡ Gone)
closes n id v r slots xs f is all =
    let ws : List ℕ = words_in n.labels slots in
    let k : RecorderInvariant n ws f.0.views = subst (λ (z : List ℕ). RecorderInvariant n (words_in n.labels z) f.0.views) f.2 f.1.0.1 in
    let at : get_elem? f.0.views id ≡ some (Reporter r) = subst (λ (u : View). get_elem? f.0.views id ≡ some u) is f.1.1 in
    (f.0.views, k, front_of n ws f.0.views id r k at, others_gone n ws f.0.views k id r at all)
