-- Where a word stands in the table. The words that each writer adds to stand apart from those that it only reads, and each row of cells stands
-- on its own, so writers of different stripes have no line of memory in common but that of the start and the end words.
use Rattle.std.specs.Prelude.{ℕ, zero, suc, ◌+◌, ◌*◌, ◌/◌, ◌%◌, List, [], ◌∷◌, slice_index}
use Rattle.phaser_core.specs.Cells.{word_count, rows_in}

-- 0 the active word, 16 to 18 start and the end words, 32 the stop word, and from 48 on the rows of six cells, one in every 16 slots
abbrev pub slot : ℕ → ℕ
slot zero = 0
slot (suc zero) = 16
slot (suc (suc zero)) = 17
slot (suc (suc (suc zero))) = 18
slot (suc (suc (suc (suc zero)))) = 32
slot (suc (suc (suc (suc (suc cell))))) = 48 + (16 * (cell / 6) + cell % 6)

-- how many slots there are: those of two tables of rows after the first 48
abbrev pub slot_count : ℕ → ℕ
slot_count labels = 48 + 16 * (2 * rows_in labels)

-- the first values of a function
unfoldable pub values : (ℕ → ℕ) → ℕ → List ℕ
values f zero = []
values f (suc n) = f 0 ∷ values (λ i. f (suc i)) n

-- the words that stand in the slots
unfoldable pub words_in : ℕ → List ℕ → List ℕ
words_in labels slots = values (λ word. slice_index slots (slot word)) (word_count labels)
