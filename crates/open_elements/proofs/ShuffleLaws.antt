-- The children at places that were shuffled are the children shuffled.
use Rattle.std.proofs.Common.{◌≡◌, ℕ, zero, suc, ◌+◌, ◌-◌, ◌%◌, List, [], ◌∷◌, length, map, Some, refl, sym, ap, ◌∙◌, add-one}
use mathlib.Core.Path.{fun_ext}
use Rattle.std.specs.Prelude.{slice_get, swap, slice_set, slice_index_or}
use Rattle.std.specs.List.{range_with_len}
use Rattle.std.proofs.lemmas.List.{map-set}
use Rattle.var_functions.specs.FunctionState.{Functions, drawn, draw}
use Rattle.choice_controllers.specs.RandomOrderController.{shuffled, places, random_order}
use Rattle.jm_meaning.specs.State.{State, and_then}
use Rattle.jm_meaning.specs.Children.{Below, in_order}
use Rattle.jm_meaning.specs.Choices.{shuffled_all}
use Rattle.open_elements.specs.Cursors.{each_of}

get-map : {A B : Type 0} (f : A → B) (xs : List A) (i : ℕ) (d : A) → slice_index_or (map f xs) i (f d) ≡ f (slice_index_or xs i d)
get-map f [] i d = refl
get-map f (x ∷ xs) zero d = refl
get-map f (x ∷ xs) (suc i) d = get-map f xs i d

-- an exchange of what is made of elements is what is made of them exchanged
swap-map : {A B : Type 0} (f : A → B) (xs : List A) (i j : ℕ) → swap (map f xs) i j ≡ map f (swap xs i j)
swap-map f [] i j = refl
swap-map f (d ∷ ys) i j =
    ap (λ y. slice_set (slice_set (f d ∷ map f ys) i y) j (slice_index_or (f d ∷ map f ys) i (f d))) (get-map f (d ∷ ys) j d)
    ∙ ap (λ y. slice_set (slice_set (f d ∷ map f ys) i (f (slice_index_or (d ∷ ys) j d))) j y) (get-map f (d ∷ ys) i d)
    ∙ ap (λ zs. slice_set zs j (f (slice_index_or (d ∷ ys) i d))) (sym (map-set f (d ∷ ys) i (slice_index_or (d ∷ ys) j d)))
    ∙ sym (map-set f (slice_set (d ∷ ys) i (slice_index_or (d ∷ ys) j d)) j (slice_index_or (d ∷ ys) i d))

-- what is made of each element of a shuffled list
abbrev made : {A B : Type 0} → (A → B) → List A × Functions → List B × Functions
made f s = (map f s.0, s.1)

pub shuffled-map : {A B : Type 0} (f : A → B) (i : ℕ) (xs : List A) (fns : Functions) → shuffled i (map f xs) fns ≡ made f (shuffled i xs fns)
shuffled-map f zero xs fns = refl
shuffled-map f (suc i) xs fns =
    ap (λ ys. shuffled i ys (draw fns)) (swap-map f xs (suc i) (drawn fns.random % (suc i + 1)))
    ∙ shuffled-map f i (swap xs (suc i) (drawn fns.random % (suc i + 1))) (draw fns)

-- ---- the children at all places are all children

range-on : (a n : ℕ) → range_with_len (a + 1) n ≡ map suc (range_with_len a n)
range-on a zero = refl
range-on a (suc n) = ap (λ k. k ∷ range_with_len (a + 1 + 1) n) (add-one a) ∙ ap (λ ks. suc a ∷ ks) (range-on (a + 1) n)

get-behind : (x : ℕ) (xs ks : List ℕ) → map (slice_get (x ∷ xs)) (map suc ks) ≡ map (slice_get xs) ks
get-behind x xs [] = refl
get-behind x xs (k ∷ ks) = ap (λ os. slice_get xs k ∷ os) (get-behind x xs ks)

all-places : (xs : List ℕ) → map (slice_get xs) (range_with_len 0 (length xs)) ≡ map Some xs
all-places [] = refl
all-places (x ∷ xs) =
    ap (λ ks. Some x ∷ map (slice_get (x ∷ xs)) ks) (range-on 0 (length xs))
    ∙ ap (λ os. Some x ∷ os) (get-behind x xs (range_with_len 0 (length xs)) ∙ all-places xs)

-- the children at the places of a random order are the children in that order, and as many words are drawn
pub order-of-children : (children : List ℕ) (fns : Functions) → made (slice_get children) (random_order (length children) fns) ≡ made Some (shuffled_all children fns)
order-of-children children fns =
    sym (shuffled-map (slice_get children) (length children - 1) (places (length children)) fns)
    ∙ ap (λ os. shuffled (length children - 1) os fns) (all-places children)
    ∙ shuffled-map Some (length children - 1) children fns

-- children that are there, one after another
pub each-there : (below : Below) (round : ℕ) (xs : List ℕ) (s : State) → each_of below round (map Some xs) s ≡ in_order below round xs s
each-there below round [] s = refl
each-there below round (x ∷ xs) s = ap (and_then (below x round s)) (fun_ext λ t. each-there below round xs t)
