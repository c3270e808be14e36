-- A text among those of a choice is the text of one value.
use Rattle.std.proofs.Common.{◌≡◌, ℕ, Bool, true, false, List, [], ◌∷◌, Some, refl, sym, ap, true≢false}
use Rattle.std.specs.Prelude.{bytes_eq, map, option_map, slice_get}
use Rattle.std.specs.List.{list_any}
use Rattle.std.proofs.lemmas.Slice.Eq.{bytes_eq-Decides}
use Rattle.std.proofs.lemmas.Option.{slice_get-map}
use Rattle.element_props.specs.ChoiceTexts.{named, word_in}

module _ {C : Type 0} (word : C → List ℕ) (text : List ℕ) where
  -- a text that is one of them is the text of the value that it stands for
  pub words_named : (all : List C) → word_in (map word all) text ≡ option_map word (named word all text)
  words_named [] = refl
  words_named (x ∷ xs) = by_same (bytes_eq (word x) text) refl (words_named xs) where
    by_same : (b : Bool) → bytes_eq (word x) text ≡ b → word_in (map word xs) text ≡ option_map word (named word xs text) → word_in (map word (x ∷ xs)) text ≡ option_map word (named word (x ∷ xs) text)
    by_same true is later = rw is (ap Some (sym ((bytes_eq-Decides (word x) text).0 is)))
    by_same false is later = rw is later

  -- and stands for one
  pub choice_takes : (all : List C) → list_any (λ w. bytes_eq w text) (map word all) ≡ true → (x : C) × (named word all text ≡ Some x) × (word x ≡ text)
  choice_takes [] h = absurd (true≢false (sym h))
  choice_takes (x ∷ xs) h = by_same (bytes_eq (word x) text) refl (λ k. choice_takes xs k) where
    by_same : (b : Bool) → bytes_eq (word x) text ≡ b → (list_any (λ w. bytes_eq w text) (map word xs) ≡ true → (y : C) × (named word xs text ≡ Some y) × (word y ≡ text))
        → (y : C) × (named word (x ∷ xs) text ≡ Some y) × (word y ≡ text)
    by_same true is later = (x, rw is refl, (bytes_eq-Decides (word x) text).0 is)
    by_same false is later = let r = later (rw is at h) in (r.0, rw is r.1, r.2)

-- the text of each place
pub word_place : {C : Type 0} (word : C → List ℕ) (all : List C) (place : ℕ) → slice_get (map word all) place ≡ option_map word (slice_get all place)
word_place word all place = slice_get-map word all place
