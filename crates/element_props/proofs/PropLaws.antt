-- Lists of values, one after another.
use Rattle.std.proofs.Common.{◌≡◌, ℕ, suc, ◌+◌, ◌<◌, ◌≤◌, nat_le, ◌&&◌, List, [], ◌∷◌, ◌++◌, length, get_or, drop, Option, Some, None, option_map, option_and_then, refl, sym, ap, ◌∙◌, append_assoc, add-one, drop-cons, Bool, nat_eq, true, false, ◌||◌, arith}
use Rattle.std.proofs.lemmas.List.{append-nil, drop_all}
use Rattle.serde_json.specs.Data.{Data, item}
use Rattle.serde_json.specs.View.{view, items_view}
use Rattle.serde_json.specs.declared.value.Value.{Value}
use Rattle.serde_json.specs.Events.{items_len}
use Rattle.serde_json.proofs.Views.{items_len-items_view}
use Rattle.element_props.specs.Forms.{all_of, few_of, is_no_item, has_long, items_have_long}

-- what was read, before what is left
abbrev pub before : {A : Type 0} → List A → Option (List A) → Option (List A)
before prefix rest = option_map (λ xs. prefix ++ xs) rest

one_more : {A : Type 0} (prefix : List A) (x : A) (rest : Option (List A)) → before prefix (option_map (λ xs. x ∷ xs) rest) ≡ before (prefix ++ x ∷ []) rest
one_more prefix x None = refl
one_more prefix x (Some xs) = ap Some (sym (append_assoc prefix (x ∷ []) xs))

items_step : (vs : List Value) (i : ℕ) (v : Value) → i < length vs → v ≡ get_or vs i v → items_view (drop i vs) ≡ item (view v) (items_view (drop (i + 1) vs))
items_step vs i v h is = rw add-one (ap items_view (drop-cons vs i v h) ∙ ap (λ w. item (view w) (items_view (drop (suc i) vs))) (sym is))

pub all_done : {A : Type 0} (read : Data → Option A) (prefix : List A) (vs : List Value) (i : ℕ) (v : Value) (x : A) → i < length vs → v ≡ get_or vs i v → read (view v) ≡ Some x
    → before prefix (all_of read (items_view (drop i vs))) ≡ all_of read (items_view vs) → before (prefix ++ x ∷ []) (all_of read (items_view (drop (i + 1) vs))) ≡ all_of read (items_view vs)
all_done {A} read prefix vs i v x h is e kept = sym (one_more prefix x _) ∙ ap (λ (o : Option A). before prefix (option_and_then (λ y. option_map (λ xs. y ∷ xs) (all_of read (items_view (drop (i + 1) vs)))) o)) (sym e)
    ∙ ap (λ ds. before prefix (all_of read ds)) (sym (items_step vs i v h is)) ∙ kept

pub not_all : {A : Type 0} (read : Data → Option A) (prefix : List A) (vs : List Value) (i : ℕ) (v : Value) → i < length vs → v ≡ get_or vs i v → read (view v) ≡ None
    → before prefix (all_of read (items_view (drop i vs))) ≡ all_of read (items_view vs) → all_of read (items_view vs) ≡ None
not_all {A} read prefix vs i v h is e kept = sym kept ∙ ap (λ ds. before prefix (all_of read ds)) (items_step vs i v h is)
    ∙ ap (λ (o : Option A). before prefix (option_and_then (λ y. option_map (λ xs. y ∷ xs) (all_of read (items_view (drop (i + 1) vs)))) o)) e

pub all_start : {A : Type 0} (o : Option (List A)) → before [] o ≡ o
all_start None = refl
all_start (Some xs) = refl

pub all_end : {A : Type 0} (read : Data → Option A) (prefix : List A) (vs : List Value) (i : ℕ) → length vs ≤ i
    → before prefix (all_of read (items_view (drop i vs))) ≡ all_of read (items_view vs) → all_of read (items_view vs) ≡ Some prefix
all_end read prefix vs i h kept = sym kept ∙ ap (λ (ws : List Value). before prefix (all_of read (items_view ws))) (drop_all i vs h) ∙ ap Some (append-nil prefix)

-- a list of 1 to that many values
pub few_are : {A : Type 0} (most : ℕ) (read : Data → Option A) (vs : List Value) → (nat_le 1 (length vs) && nat_le (length vs) most) ≡ true → few_of most read (items_view vs) ≡ all_of read (items_view vs)
few_are most read vs h = rw (items_len-items_view vs, h) refl

pub few_not : {A : Type 0} (most : ℕ) (read : Data → Option A) (vs : List Value) → (nat_le 1 (length vs) && nat_le (length vs) most) ≡ false → few_of most read (items_view vs) ≡ None
few_not most read vs h = rw (items_len-items_view vs, h) refl

pub list_length : (vs : List Value) → items_len (items_view vs) ≡ length vs
list_length vs = items_len-items_view vs

not_zero : (n : ℕ) → nat_eq (suc n) 0 ≡ false
not_zero n = grind arith

pub no_item_empty : (vs : List Value) → nat_eq (length vs) 0 ≡ is_no_item (items_view vs)
no_item_empty [] = refl
no_item_empty (v ∷ vs) = not_zero (length vs)

or_right : (a b : Bool) → (a || b) ≡ false → b ≡ false
or_right true b h = cc
or_right false b h = h

pub short_left : (vs : List Value) (i : ℕ) (v : Value) → i < length vs → v ≡ get_or vs i v
    → items_have_long 65536 (items_view (drop i vs)) ≡ false → items_have_long 65536 (items_view (drop (i + 1) vs)) ≡ false
short_left vs i v h is kept = or_right (has_long 65536 (view v)) _ (ap (items_have_long 65536) (sym (items_step vs i v h is)) ∙ kept)
