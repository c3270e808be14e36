-- The steps of a condition come to its value.
use Rattle.std.proofs.Common.{◌≡◌, ℕ, suc, ◌+◌, ◌<◌, Bool, List, [], ◌∷◌, ◌++◌, length, drop, get_or, Option, Some, None, Result, Ok, Err, refl, ap, sym, ◌∙◌, arith, append_assoc, length-append}
use Rattle.std.proofs.lemmas.List.{same_from_push, drop_more}
use Rattle.cond_expr.specs.declared.value.CondValue.{CondValue}
use Rattle.cond_expr.specs.declared.value.CondValue.TheVariants.{Truth}
use Rattle.cond_expr.specs.declared.value.Operator.{Operator}
use Rattle.cond_expr.specs.declared.value.CondError.{CondError}
use Rattle.cond_expr.specs.declared.value.CondError.TheVariants.{BadCond, NoMemory}
use Rattle.cond_expr.specs.declared.cond.Step.{Step}
use Rattle.cond_expr.specs.declared.cond.Step.TheVariants.{Value, Not, Apply}
use Rattle.cond_expr.specs.ConditionTree.{Reading, constant, negated, operated}
use Rattle.cond_expr.specs.ConditionWorth.{opposite, applied, truth_or_fault, ◌>>=◌, value_of}
use Rattle.cond_expr.specs.Steps.{steps_of, reading_of_steps, AreSteps, reading_of_steps-steps_of}
use Rattle.cond_expr.specs.Piles.{pile, Puts, on_truth, outcome_of, Advances, IsReady}

-- a fault ends the evaluation
after : Result CondValue ℕ → (CondValue → Option (Result CondValue ℕ)) → Option (Result CondValue ℕ)
after (Ok v) go = go v
after (Err at) go = Some (Err at)

after-truth_or_fault : (at : ℕ) (o : Option Bool) (go : CondValue → Option (Result CondValue ℕ)) → after (truth_or_fault at o) go ≡ on_truth at o go
unfolding after
after-truth_or_fault at (Some p) go = refl
after-truth_or_fault at None go = refl

after-bind : (r : Result CondValue ℕ) (f : CondValue → Result CondValue ℕ) (go : CondValue → Option (Result CondValue ℕ)) → after (r >>= f) go ≡ after r (λ v. after (f v) go)
unfolding after
after-bind (Ok v) f go = refl
after-bind (Err at) f go = refl

-- the same from each value on
after-same : (r : Result CondValue ℕ) (f g : CondValue → Option (Result CondValue ℕ)) → ((v : CondValue) → f v ≡ g v) → after r f ≡ after r g
unfolding after
after-same (Ok v) f g h = h v
after-same (Err at) f g h = refl

-- the steps of a reading put its value on top, or find its fault
outcome_of-steps_of : (r : Reading) (ss : List Step) (vs : List CondValue) → outcome_of (steps_of r ++ ss) vs ≡ after (value_of r) (λ v. outcome_of ss (v ∷ vs))
unfolding outcome_of steps_of value_of after
outcome_of-steps_of (constant v) ss vs = refl
outcome_of-steps_of (negated at r) ss vs =
    ap (λ x. outcome_of x vs) (append_assoc (steps_of r) (Not at ∷ []) ss)
    ∙ outcome_of-steps_of r (Not at ∷ ss) vs
    ∙ after-same (value_of r) (λ v. on_truth at (opposite v) (λ t. outcome_of ss (t ∷ vs))) (λ v. after (truth_or_fault at (opposite v)) (λ t. outcome_of ss (t ∷ vs)))
    (λ v. sym (after-truth_or_fault at (opposite v) (λ t. outcome_of ss (t ∷ vs))))
    ∙ sym (after-bind (value_of r) (λ v. truth_or_fault at (opposite v)) (λ t. outcome_of ss (t ∷ vs)))
outcome_of-steps_of (operated at op l r) ss vs =
    ap (λ x. outcome_of x vs) (append_assoc (steps_of l) (steps_of r ++ Apply at op ∷ []) ss ∙ ap (λ x. steps_of l ++ x) (append_assoc (steps_of r) (Apply at op ∷ []) ss))
    ∙ outcome_of-steps_of l (steps_of r ++ Apply at op ∷ ss) vs
    ∙ after-same (value_of l) (λ v. outcome_of (steps_of r ++ Apply at op ∷ ss) (v ∷ vs)) (λ v. after (value_of r >>= λ w. truth_or_fault at (applied op v w)) (λ t. outcome_of ss (t ∷ vs)))
    (λ v. outcome_of-steps_of r (Apply at op ∷ ss) (v ∷ vs)
    ∙ after-same (value_of r) (λ w. on_truth at (applied op v w) (λ t. outcome_of ss (t ∷ vs))) (λ w. after (truth_or_fault at (applied op v w)) (λ t. outcome_of ss (t ∷ vs)))
    (λ w. sym (after-truth_or_fault at (applied op v w) (λ t. outcome_of ss (t ∷ vs))))
    ∙ sym (after-bind (value_of r) (λ w. truth_or_fault at (applied op v w)) (λ t. outcome_of ss (t ∷ vs))))
    ∙ sym (after-bind (value_of l) (λ v. value_of r >>= λ w. truth_or_fault at (applied op v w)) (λ t. outcome_of ss (t ∷ vs)))

append-nil : (ss : List Step) → ss ++ [] ≡ ss
append-nil [] = refl
append-nil (s ∷ ss) = ap (λ x. s ∷ x) (append-nil ss)

whole_outcome : (r : Reading) → outcome_of (steps_of r) [] ≡ Some (value_of r)
unfolding outcome_of after
whole_outcome r = ap (λ x. outcome_of x []) (sym (append-nil (steps_of r))) ∙ outcome_of-steps_of r [] [] ∙ go (value_of r)
  where
    go : (o : Result CondValue ℕ) → after o (λ v. outcome_of [] (v ∷ [])) ≡ Some o
    go (Ok v) = refl
    go (Err at) = refl

-- the steps of a condition come to its value
pub cond_outcome : (items : List Step) (cond : Reading) → AreSteps items → reading_of_steps items ≡ cond → outcome_of items [] ≡ Some (value_of cond)
cond_outcome items cond are view =
    ap (λ x. outcome_of x []) are.1 ∙ whole_outcome are.0 ∙ ap (λ r. Some (value_of r)) (sym (reading_of_steps-steps_of are.0) ∙ ap reading_of_steps (sym are.1) ∙ view)

-- one step
pub value_advances : (v : CondValue) (old new : List CondValue) → new ≡ old ++ v ∷ [] → Advances (Value v) (Ok tt) old new
unfolding outcome_of
value_advances v old new pushed = λ ss vs r held out. (v ∷ vs, pushed ∙ ap (λ x. x ++ v ∷ []) held, out)

never : {A : Type 0} → (r : Result CondValue ℕ) → ◌≡◌ {A = Option (Result CondValue ℕ)} None (Some r) → A
never r e = absurd cc

some_same : (a b : Result CondValue ℕ) → ◌≡◌ {A = Option (Result CondValue ℕ)} (Some a) (Some b) → b ≡ a
some_same a b e = cc

-- after an operator's truth or fault
put_ok : (at : ℕ) (o : Option Bool) (below new : List CondValue) (ss : List Step) (r : Result CondValue ℕ) → Puts at o below (Ok tt) new → on_truth at o (λ t. outcome_of ss (t ∷ below)) ≡ Some r →
    (ws : List CondValue) × (new ≡ pile ws) × (outcome_of ss ws ≡ Some r)
put_ok at (Some p) below new ss r puts out = (Truth p ∷ below, puts, out)
put_ok at None below new ss r puts out = absurd puts

put_fault : (at n : ℕ) (o : Option Bool) (below new : List CondValue) (ss : List Step) (r : Result CondValue ℕ) → Puts at o below (Err (BadCond n)) new → on_truth at o (λ t. outcome_of ss (t ∷ below)) ≡ Some r →
    r ≡ Err n
put_fault at n (Some p) below new ss r puts out = absurd puts
put_fault at n None below new ss r puts out = some_same (Err at) r out ∙ ap (λ k. Err k) (sym puts)

pub negate_advances : (at : ℕ) (result : Result (Unit {0}) CondError) (old new : List CondValue) → ((v : CondValue) (below : List CondValue) → old ≡ pile (v ∷ below) → Puts at (opposite v) below result new) →
    Advances (Not at) result old new
unfolding outcome_of
negate_advances at (Ok u) old new puts = λ ss vs r held out. go ss vs r held out
  where
    go : (ss : List Step) (vs : List CondValue) (r : Result CondValue ℕ) → old ≡ pile vs → outcome_of (Not at ∷ ss) vs ≡ Some r → (ws : List CondValue) × (new ≡ pile ws) × (outcome_of ss ws ≡ Some r)
    go ss [] r held out = never r out
    go ss (v ∷ below) r held out = put_ok at (opposite v) below new ss r (puts v below held) out
negate_advances at (Err (BadCond n)) old new puts = λ ss vs r held out. go ss vs r held out
  where
    go : (ss : List Step) (vs : List CondValue) (r : Result CondValue ℕ) → old ≡ pile vs → outcome_of (Not at ∷ ss) vs ≡ Some r → r ≡ Err n
    go ss [] r held out = never r out
    go ss (v ∷ below) r held out = put_fault at n (opposite v) below new ss r (puts v below held) out
negate_advances at (Err NoMemory) old new puts = tt

pub apply_advances : (at : ℕ) (op : Operator) (result : Result (Unit {0}) CondError) (old new : List CondValue) →
    ((w v : CondValue) (below : List CondValue) → old ≡ pile (w ∷ v ∷ below) → Puts at (applied op v w) below result new) → Advances (Apply at op) result old new
unfolding outcome_of
apply_advances at op (Ok u) old new puts = λ ss vs r held out. go ss vs r held out
  where
    go : (ss : List Step) (vs : List CondValue) (r : Result CondValue ℕ) → old ≡ pile vs → outcome_of (Apply at op ∷ ss) vs ≡ Some r → (ws : List CondValue) × (new ≡ pile ws) × (outcome_of ss ws ≡ Some r)
    go ss [] r held out = never r out
    go ss (w ∷ []) r held out = never r out
    go ss (w ∷ v ∷ below) r held out = put_ok at (applied op v w) below new ss r (puts w v below held) out
apply_advances at op (Err (BadCond n)) old new puts = λ ss vs r held out. go ss vs r held out
  where
    go : (ss : List Step) (vs : List CondValue) (r : Result CondValue ℕ) → old ≡ pile vs → outcome_of (Apply at op ∷ ss) vs ≡ Some r → r ≡ Err n
    go ss [] r held out = never r out
    go ss (w ∷ []) r held out = never r out
    go ss (w ∷ v ∷ below) r held out = put_fault at n (applied op v w) below new ss r (puts w v below held) out
apply_advances at op (Err NoMemory) old new puts = tt

length-pile : (vs : List CondValue) → length (pile vs) ≡ length vs
length-pile [] = refl
length-pile (v ∷ vs) = pushed_length (pile vs) v ∙ ap suc (length-pile vs)
  where
    pushed_length : (xs : List CondValue) (x : CondValue) → length (xs ++ x ∷ []) ≡ suc (length xs)
    pushed_length xs x = omega (arith, length-append xs (x ∷ []))

-- the step finds its values
pub ready : (step : Step) (ss : List Step) (items ws : List CondValue) (n : ℕ) (r : Result CondValue ℕ) → n ≡ length items → items ≡ pile ws → outcome_of (step ∷ ss) ws ≡ Some r → IsReady step n
unfolding outcome_of
ready (Value v) ss items ws n r len held out = tt
ready (Not at) ss items [] n r len held out = never r out
ready (Not at) ss items (v ∷ ws) n r len held out = omega (arith, ap length held, length-pile (v ∷ ws))
ready (Apply at op) ss items [] n r len held out = never r out
ready (Apply at op) ss items (w ∷ []) n r len held out = never r out
ready (Apply at op) ss items (w ∷ v ∷ ws) n r len held out = omega (arith, ap length held, length-pile (w ∷ v ∷ ws))

-- the value that is left at the end
pub left_value : (items rest ws : List CondValue) (v : CondValue) (r : Result CondValue ℕ) → items ≡ pile ws → items ≡ rest ++ v ∷ [] → outcome_of [] ws ≡ Some r → r ≡ Ok v
unfolding outcome_of
left_value items rest [] v r held popped out = never r out
left_value items rest (w ∷ []) v r held popped out =
    let (_, same) = same_from_push rest [] v w (sym popped ∙ held) in
    some_same (Ok w) r out ∙ ap (λ x. Ok x) (sym same)
left_value items rest (w ∷ x ∷ ws) v r held popped out = never r out

-- some value is left
pub left_some : (items ws : List CondValue) (n : ℕ) (r : Result CondValue ℕ) → n ≡ length items → items ≡ pile ws → outcome_of [] ws ≡ Some r → 0 < n
unfolding outcome_of
left_some items [] n r len held out = never r out
left_some items (w ∷ []) n r len held out = omega (arith, ap length held, length-pile (w ∷ []))
left_some items (w ∷ x ∷ ws) n r len held out = never r out

-- the step at a place is the first of those from there on
pub first_step : (xs : List Step) (i : ℕ) (x : Step) → i < length xs → x ≡ get_or xs i x → drop i xs ≡ x ∷ drop (i + 1) xs
first_step xs i x within is = drop_more xs i x within ∙ ap (λ y. y ∷ drop (i + 1) xs) (sym is)
