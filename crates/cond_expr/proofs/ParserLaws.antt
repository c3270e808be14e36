-- A parser that closes what is open.
use Rattle.std.proofs.Common.{◌≡◌, ℕ, suc, ◌-◌, Bool, true, false, nat_le, None, if◌then◌else◌, List, [], ◌∷◌, ◌++◌, refl, ap, sym, ◌∙◌, subst, arith, append_assoc}
use Rattle.std.proofs.lemmas.List.{same_from_push}
use Rattle.cond_expr.specs.declared.value.Operator.{Operator}
use Rattle.cond_expr.specs.declared.cond.Step.{Step}
use Rattle.cond_expr.specs.declared.cond.Step.TheVariants as step
use Rattle.cond_expr.specs.declared.parse.Pending.{Pending}
use Rattle.cond_expr.specs.declared.parse.Pending.TheVariants.{Group, Not, Operator as Left}
use Rattle.cond_expr.specs.declared.parse.Parser.{Parser}
use Rattle.cond_expr.specs.declared.value.CondValue.{CondValue}
use Rattle.cond_expr.specs.declared.token.Token.TheVariants.{Value, Close, Operate}
use Rattle.cond_expr.specs.ConditionTree.{Reading, constant}
use Rattle.cond_expr.specs.Steps.{steps_of}
use Rattle.cond_expr.specs.ConditionMachine.{Frame, group, negation, left_side, State, awaiting, complete, closed, settled, chains, strength, frame_strength, depth_of, operate, close, next}
use Rattle.cond_expr.specs.ConditionHolding.{IsOperandHeld, Holds, Takes, pending_of, left_steps, shape}

-- the frame that was taken from what is open, and what is open without it
taken : (fs : List Frame) (f : Frame) (items rest : List Pending) (p : Pending) → items ≡ pending_of (f ∷ fs) → items ≡ rest ++ p ∷ [] → (rest ≡ pending_of fs) × (p ≡ shape f)
taken fs f items rest p held popped = same_from_push rest (pending_of fs) p (shape f) (sym popped ∙ held)

pub negation_closes : (old new : Parser) (rest : List Pending) (at : ℕ) → old.pending.items ≡ rest ++ Not at ∷ [] →
    new.steps.items ≡ old.steps.items ++ step.Not at ∷ [] → new.pending.items ≡ rest → new.depth ≡ old.depth - 1 → new.awaiting ≡ old.awaiting →
    (f : Frame) (fs : List Frame) (r : Reading) → IsOperandHeld old (f ∷ fs) r → IsOperandHeld new fs (closed f r)
unfolding steps_of
negation_closes old new rest at popped steps left depth awaits (negation at') fs r held =
    let (rest_is, at_is) = taken fs (negation at') old.pending.items rest (Not at) held.pending_is popped in
    let same : at ≡ at' = cc in
    record {
      awaits_is = awaits ∙ held.awaits_is;
      steps_are = steps ∙ ap (λ x. x ++ step.Not at ∷ []) held.steps_are ∙ ap (λ n. (left_steps fs ++ steps_of r) ++ step.Not n ∷ []) same ∙ append_assoc (left_steps fs) (steps_of r) (step.Not at' ∷ []);
      pending_is = left ∙ rest_is;
      depth_is = depth ∙ ap (λ n. n - 1) held.depth_is ∙ less (depth_of fs);
    }
  where
    less : (n : ℕ) → suc n - 1 ≡ n
    less n = omega arith
negation_closes old new rest at popped steps left depth awaits group fs r held =
    let (rest_is, at_is) = taken fs group old.pending.items rest (Not at) held.pending_is popped in
    absurd cc
negation_closes old new rest at popped steps left depth awaits (left_side at' op l) fs r held =
    let (rest_is, at_is) = taken fs (left_side at' op l) old.pending.items rest (Not at) held.pending_is popped in
    absurd cc

pub operator_closes : (old new : Parser) (rest : List Pending) (at : ℕ) (op : Operator) → old.pending.items ≡ rest ++ Left at op ∷ [] →
    new.steps.items ≡ old.steps.items ++ step.Apply at op ∷ [] → new.pending.items ≡ rest → new.depth ≡ old.depth → new.awaiting ≡ old.awaiting →
    (f : Frame) (fs : List Frame) (r : Reading) → IsOperandHeld old (f ∷ fs) r → IsOperandHeld new fs (closed f r)
unfolding steps_of
operator_closes old new rest at op popped steps left depth awaits (left_side at' op' l) fs r held =
    let (rest_is, at_is) = taken fs (left_side at' op' l) old.pending.items rest (Left at op) held.pending_is popped in
    let same : at ≡ at' = cc in
    let same_op : op ≡ op' = cc in
    record {
      awaits_is = awaits ∙ held.awaits_is;
      steps_are = steps ∙ ap (λ x. x ++ step.Apply at op ∷ []) held.steps_are
          ∙ ap (λ n. ((left_steps fs ++ steps_of l) ++ steps_of r) ++ step.Apply n op ∷ []) same
          ∙ ap (λ o. ((left_steps fs ++ steps_of l) ++ steps_of r) ++ step.Apply at' o ∷ []) same_op
          ∙ regrouped (left_steps fs) (steps_of l) (steps_of r) (step.Apply at' op' ∷ []);
      pending_is = left ∙ rest_is;
      depth_is = depth ∙ held.depth_is;
    }
  where
    regrouped : (a b c d : List Step) → ((a ++ b) ++ c) ++ d ≡ a ++ (b ++ (c ++ d))
    regrouped a b c d = append_assoc (a ++ b) c d ∙ append_assoc a b (c ++ d)
operator_closes old new rest at op popped steps left depth awaits group fs r held =
    let (rest_is, at_is) = taken fs group old.pending.items rest (Left at op) held.pending_is popped in
    absurd cc
operator_closes old new rest at op popped steps left depth awaits (negation at') fs r held =
    let (rest_is, at_is) = taken fs (negation at') old.pending.items rest (Left at op) held.pending_is popped in
    absurd cc

-- with an operand closed over what is open, an operand has come
pub settled_complete : (s : ℕ) (fs : List Frame) (r : Reading) → (gs : List Frame) × (u : Reading) × (settled s fs r ≡ complete gs u)
settled_complete s [] r = ([], r, refl)
settled_complete s (f ∷ fs) r = go (nat_le s (frame_strength f)) (settled_complete s fs (closed f r))
  where
    go : (b : Bool) → (gs : List Frame) × (u : Reading) × (settled s fs (closed f r) ≡ complete gs u) →
        (gs : List Frame) × (u : Reading) × ((if b then settled s fs (closed f r) else complete (f ∷ fs) r) ≡ complete gs u)
    go true w = w
    go false w = (f ∷ fs, r, refl)

false_is_true : {A : Type 0} → (b : Bool) → b ≡ false → b ≡ true → A
false_is_true b e h = absurd cc

pub value_takes : (old mid new : Parser) (v : CondValue) → old.awaiting ≡ true → mid.steps.items ≡ old.steps.items ++ step.Value v ∷ [] → mid.pending.items ≡ old.pending.items → mid.depth ≡ old.depth → mid.awaiting ≡ false →
    ((fs : List Frame) (r : Reading) → IsOperandHeld mid fs r → Holds new (settled 4 fs r)) →
    (at : ℕ) (s : State) → Holds old s → Takes true (next at (Value v) s) new
unfolding steps_of
value_takes old mid new v waits steps pending depth awaits settles at (awaiting fs) held = settles fs (constant v) (record {
  awaits_is = awaits;
  steps_are = steps ∙ ap (λ x. x ++ step.Value v ∷ []) held.steps_are;
  pending_is = pending ∙ held.pending_is;
  depth_is = depth ∙ held.depth_is;
})
value_takes old mid new v waits steps pending depth awaits settles at (complete fs r) held = false_is_true old.awaiting held.awaits_is waits

pushed : (at : ℕ) (op : Operator) (mid new : Parser) (s : State) (fs : List Frame) (r : Reading) → s ≡ complete fs r → Holds mid s → new.steps.items ≡ mid.steps.items →
    new.pending.items ≡ mid.pending.items ++ Left at op ∷ [] → new.depth ≡ mid.depth → new.awaiting ≡ true → Takes true (operate at op s) new
pushed at op mid new s fs r is held steps pending depth awaits =
    let held' : IsOperandHeld mid fs r = subst (Holds mid) is held in
    let made : Takes true (operate at op (complete fs r)) new = record {
      awaits_is = awaits;
      steps_are = steps ∙ held'.steps_are;
      pending_is = pending ∙ ap (λ x. x ++ Left at op ∷ []) held'.pending_is;
      depth_is = depth ∙ held'.depth_is;
    } in
    subst (λ t. Takes true (operate at op t) new) (sym is) made

pub operator_takes : (at : ℕ) (op : Operator) (old mid new : Parser) → old.awaiting ≡ false → ((fs : List Frame) → old.pending.items ≡ pending_of fs → chains op fs ≡ false) →
    ((fs : List Frame) (r : Reading) → IsOperandHeld old fs r → Holds mid (settled (strength op) fs r)) →
    new.steps.items ≡ mid.steps.items → new.pending.items ≡ mid.pending.items ++ Left at op ∷ [] → new.depth ≡ mid.depth → new.awaiting ≡ true →
    (s : State) → Holds old s → Takes true (next at (Operate op) s) new
operator_takes at op old mid new came free settles steps pending depth awaits (awaiting fs) held = false_is_true old.awaiting came held.awaits_is
operator_takes at op old mid new came free settles steps pending depth awaits (complete fs r) held =
    let (gs, u, is) = settled_complete (strength op) fs r in
    let put : Takes true (operate at op (settled (strength op) fs r)) new = pushed at op mid new (settled (strength op) fs r) gs u is (settles fs r held) steps pending depth awaits in
    subst (λ b. Takes true (if b then None else operate at op (settled (strength op) fs r)) new) (sym (free fs held.pending_is)) put

pub no_push : (ps : List Pending) (p : Pending) → ps ++ p ∷ [] ≡ [] → ⊥
no_push [] p e = cc
no_push (q ∷ qs) p e = cc

ended : (mid out new : Parser) (rest : List Pending) (gs : List Frame) (u : Reading) → IsOperandHeld mid gs u → mid.pending.items ≡ rest ++ Group ∷ [] →
    out.steps.items ≡ mid.steps.items → out.pending.items ≡ rest → out.depth ≡ mid.depth - 1 → out.awaiting ≡ mid.awaiting →
    ((fs : List Frame) (r : Reading) → IsOperandHeld out fs r → Holds new (settled 4 fs r)) → Takes true (close (complete gs u)) new
ended mid out new rest [] u held popped steps pending depth awaits settles = absurd (no_push rest Group (sym popped ∙ held.pending_is))
ended mid out new rest (group ∷ gs) u held popped steps pending depth awaits settles =
    let (rest_is, group_is) = taken gs group mid.pending.items rest Group held.pending_is popped in
    settles gs u (record {
      awaits_is = awaits ∙ held.awaits_is;
      steps_are = steps ∙ held.steps_are;
      pending_is = pending ∙ rest_is;
      depth_is = depth ∙ ap (λ n. n - 1) held.depth_is ∙ less (depth_of gs);
    })
  where
    less : (n : ℕ) → suc n - 1 ≡ n
    less n = omega arith
ended mid out new rest (negation at ∷ gs) u held popped steps pending depth awaits settles =
    let (rest_is, at_is) = taken gs (negation at) mid.pending.items rest Group held.pending_is popped in
    absurd cc
ended mid out new rest (left_side at op l ∷ gs) u held popped steps pending depth awaits settles =
    let (rest_is, at_is) = taken gs (left_side at op l) mid.pending.items rest Group held.pending_is popped in
    absurd cc

pub close_takes : (old mid out new : Parser) (rest : List Pending) → old.awaiting ≡ false → ((fs : List Frame) (r : Reading) → IsOperandHeld old fs r → Holds mid (settled 1 fs r)) →
    mid.pending.items ≡ rest ++ Group ∷ [] → out.steps.items ≡ mid.steps.items → out.pending.items ≡ rest → out.depth ≡ mid.depth - 1 → out.awaiting ≡ mid.awaiting →
    ((fs : List Frame) (r : Reading) → IsOperandHeld out fs r → Holds new (settled 4 fs r)) →
    (at : ℕ) (s : State) → Holds old s → Takes true (next at Close s) new
close_takes old mid out new rest came closes popped steps pending depth awaits settles at (awaiting fs) held = false_is_true old.awaiting came held.awaits_is
close_takes old mid out new rest came closes popped steps pending depth awaits settles at (complete fs r) held =
    let (gs, u, is) = settled_complete 1 fs r in
    let held' : IsOperandHeld mid gs u = subst (Holds mid) is (closes fs r held) in
    subst (λ t. Takes true (close t) new) (sym is) (ended mid out new rest gs u held' popped steps pending depth awaits settles)
