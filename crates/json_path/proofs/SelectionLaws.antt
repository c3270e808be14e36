-- Values that are reached step by step.
use Rattle.std.proofs.Common.{◌≡◌, ℕ, zero, suc, ◌+◌, ◌<◌, ◌≤◌, List, [], ◌∷◌, ◌++◌, length, drop, get_or, refl, ap, sym, ◌∙◌, arith, append_assoc}
use Rattle.std.specs.List.{flat_map}
use Rattle.std.proofs.lemmas.List.{drop_more}
use Rattle.serde_json.specs.Data.{Data}
use Rattle.serde_json.specs.View.{view, items_view}
use Rattle.serde_json.specs.declared.value.Value.{Value}
use Rattle.json_path.specs.declared.path.Step.{Step}
use Rattle.json_path.specs.Selection.{item_at, step_values, reached}

pub item_at_within : (vs : List Value) (n : ℕ) (x : Value) → n < length vs → x ≡ get_or vs n x → item_at n (items_view vs) ≡ view x ∷ []
item_at_within [] n x within is = absurd (omega arith)
item_at_within (v ∷ vs) zero x within is = ap (λ y. view y ∷ []) (sym is)
item_at_within (v ∷ vs) (suc n) x within is = item_at_within vs n x (omega arith) is

pub item_at_past : (vs : List Value) (n : ℕ) → length vs ≤ n → item_at n (items_view vs) ≡ []
item_at_past [] n past = refl
item_at_past (v ∷ vs) zero past = absurd (omega arith)
item_at_past (v ∷ vs) (suc n) past = item_at_past vs n (omega arith)

pub append-nil : (ds : List Data) → ds ++ [] ≡ ds
append-nil [] = refl
append-nil (d ∷ ds) = ap (λ x. d ∷ x) (append-nil ds)

flat_map-append : (f : Data → List Data) (xs ys : List Data) → flat_map f (xs ++ ys) ≡ flat_map f xs ++ flat_map f ys
flat_map-append f [] ys = refl
flat_map-append f (x ∷ xs) ys = ap (λ z. f x ++ z) (flat_map-append f xs ys) ∙ sym (append_assoc (f x) (flat_map f xs) (flat_map f ys))

-- one step from each value, and then the others
pub step_on : (s : Step) (ss : List Step) (ds : List Data) → flat_map (reached ss) (flat_map (step_values s) ds) ≡ flat_map (reached (s ∷ ss)) ds
unfolding reached
step_on s ss [] = refl
step_on s ss (d ∷ ds) = flat_map-append (reached ss) (step_values s d) (flat_map (step_values s) ds) ∙ ap (λ z. flat_map (reached ss) (step_values s d) ++ z) (step_on s ss ds)

-- no step is left
pub no_step_on : (ds : List Data) → flat_map (reached []) ds ≡ ds
unfolding reached
no_step_on [] = refl
no_step_on (d ∷ ds) = ap (λ z. d ∷ z) (no_step_on ds)

-- the step at a place is the first of those from there on
pub first_step : (xs : List Step) (i : ℕ) (x : Step) → i < length xs → x ≡ get_or xs i x → drop i xs ≡ x ∷ drop (i + 1) xs
first_step xs i x within is = drop_more xs i x within ∙ ap (λ y. y ∷ drop (i + 1) xs) (sym is)
