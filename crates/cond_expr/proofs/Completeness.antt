-- What the grammar reads, the machine reads.
use Rattle.std.proofs.Common.{◌≡◌, ℕ, suc, ◌+◌, ◌≤◌, true, false, nat_lt, List, [], ◌∷◌, ◌++◌, None, Some, Ok, if◌then◌else◌, refl, ap, sym, ◌∙◌, arith}
use Rattle.std.proofs.lemmas.Bool.Decides.{nat_tests}
use Rattle.cond_expr.specs.declared.value.Operator.{Operator}
use Rattle.cond_expr.specs.declared.value.Operator.TheVariants.{Or, And}
use Rattle.cond_expr.specs.declared.token.Token.TheVariants.{Value, Not, Open, Close, Operate}
use Rattle.cond_expr.specs.Tokens.{Placed}
use Rattle.cond_expr.specs.ConditionTree.{Reading, constant, operated}
use Rattle.cond_expr.specs.ConditionGrammar.{Strength, disjunction, conjunction, comparison, operand, placed, Reads, value, negation, group, compare, both, either, one_operand, one_comparison, one_conjunction, max_depth, IsConditionOf}
use Rattle.cond_expr.specs.ConditionMachine as machine
use Rattle.cond_expr.specs.ConditionMachine.{Frame, left_side, depth_of, State, awaiting, complete, settled, chains, strength, operate, close, next, run, whole, finish, or_else_fault, reading_of}
use Rattle.cond_expr.proofs.Settling.{Loose, Loose-weaker, settled-loose, settled-closes, resettled, resettled-settled, chains-loose, chains-or, chains-and, comparison-strength, run-next, run-none, run-then}

-- From the tokens the machine comes to a state that closes to the reading, over what was open before.
abbrev pub Closes : ℕ → ℕ → List Placed → Reading → Type 0
Closes s levels ts r =
    (fs : List Frame) → depth_of fs + levels ≡ max_depth → Loose s fs →
    (gs : List Frame) × (u : Reading) × (run ts (awaiting fs) ≡ Ok (complete gs u)) × (settled s gs u ≡ complete fs r)

abbrev pub Completes : Strength → ℕ → List Placed → Reading → Type 0
Completes operand levels ts r = (fs : List Frame) → depth_of fs + levels ≡ max_depth → run ts (awaiting fs) ≡ Ok (settled 4 fs r)
Completes comparison levels ts r = Closes 3 levels ts r
Completes conjunction levels ts r = Closes 2 levels ts r
Completes disjunction levels ts r = Closes 1 levels ts r

-- closing less strongly goes on where closing more strongly stopped
closes_on : (s t : ℕ) (gs fs : List Frame) (u r : Reading) → s ≤ t → settled t gs u ≡ complete fs r → settled s gs u ≡ settled s fs r
closes_on s t gs fs u r h e = sym (resettled-settled s t gs u h) ∙ ap (resettled s) e

weaker : (s levels : ℕ) (ts : List Placed) (r : Reading) → Closes (suc s) levels ts r → Closes s levels ts r
weaker s levels ts r up = λ fs d l.
    let (gs, u, ran, closes) = up fs d (Loose-weaker s (suc s) fs (omega arith) l) in
    (gs, u, ran, closes_on s (suc s) gs fs u r (omega arith) closes ∙ settled-loose s fs r l)

opens : (f : Frame) (fs : List Frame) (levels : ℕ) → depth_of fs + suc levels ≡ max_depth → machine.open_frame f fs ≡ Some (awaiting (f ∷ fs))
opens f fs levels d = ap (λ b. if b then Some (awaiting (f ∷ fs)) else None) (below (depth_of fs) levels d)
  where
    below : (n m : ℕ) → n + suc m ≡ 64 → nat_lt n 64 ≡ true
    below n m e = grind (arith, nat_tests)

-- an operator of this strength between what came before it and what comes after it
between : (at s levels : ℕ) (op : Operator) (ts us : List Placed) (l r : Reading) → strength op ≡ s → ((gs : List Frame) → chains op gs ≡ false) →
    Closes s levels ts l → Closes (suc s) levels us r → Closes s levels (ts ++ placed at (Operate op) ∷ us) (operated at op l r)
between at s levels op ts us l r is free left right = λ fs d loose.
    let (gs, u, ran, closes) = left fs d loose in
    let fs' : List Frame = left_side at op l ∷ fs in
    let taken : next at (Operate op) (complete gs u) ≡ Some (awaiting fs') =
    ap (λ b. if b then None else operate at op (settled (strength op) gs u)) (free gs) ∙ ap (λ n. operate at op (settled n gs u)) is ∙ ap (operate at op) closes in
    let (hs, v, ran', closes') = right fs' d (omega arith) in (
      hs,
      v,
      run-then ts (placed at (Operate op) ∷ us) (awaiting fs) (complete gs u) ran ∙ run-next (placed at (Operate op)) us (complete gs u) (awaiting fs') taken ∙ ran',
      closes_on s (suc s) hs fs' v r (omega arith) closes' ∙ settled-closes s (left_side at op l) fs r (omega arith) ∙ settled-loose s fs (operated at op l r) loose,
    )

pub completes : (L : Strength) (levels : ℕ) (ts : List Placed) (r : Reading) → Reads L levels ts r → Completes L levels ts r
completes _ _ _ _ (value levels at v) = λ fs d.
    run-next (placed at (Value v)) [] (awaiting fs) (settled 4 fs (constant v)) refl ∙ run-none (settled 4 fs (constant v))
completes _ _ _ _ (negation levels at ts r d) = λ fs e.
    run-next (placed at Not) ts (awaiting fs) (awaiting (machine.negation at ∷ fs)) (opens (machine.negation at) fs levels e)
    ∙ completes operand levels ts r d (machine.negation at ∷ fs) (omega arith)
completes _ _ _ _ (group levels at to ts r d) = λ fs e.
    let (gs, u, ran, closes) = completes disjunction levels ts r d (machine.group ∷ fs) (omega arith) (omega arith) in
    run-next (placed at Open) (ts ++ placed to Close ∷ []) (awaiting fs) (awaiting (machine.group ∷ fs)) (opens machine.group fs levels e)
    ∙ run-then ts (placed to Close ∷ []) (awaiting (machine.group ∷ fs)) (complete gs u) ran
    ∙ run-next (placed to Close) [] (complete gs u) (settled 4 fs r) (ap close closes) ∙ run-none (settled 4 fs r)
completes _ _ _ _ (compare levels at op ts us l r is d e) = λ fs depth loose.
    let fs' : List Frame = left_side at op l ∷ fs in
    let three : strength op ≡ 3 = comparison-strength op is in
    let ran : run ts (awaiting fs) ≡ Ok (complete fs l) = completes operand levels ts l d fs depth ∙ ap (λ s. Ok s) (settled-loose 4 fs l (Loose-weaker 3 4 fs (omega arith) loose)) in
    let taken : next at (Operate op) (complete fs l) ≡ Some (awaiting fs') =
    ap (λ b. if b then None else operate at op (settled (strength op) fs l)) (chains-loose op fs loose) ∙ ap (λ n. operate at op (settled n fs l)) three
    ∙ ap (operate at op) (settled-loose 3 fs l loose) in
    let ran' : run us (awaiting fs') ≡ Ok (complete fs' r) = completes operand levels us r e fs' depth ∙ ap (λ s. Ok s) (settled-loose 4 fs' r (omega arith)) in (
      fs',
      r,
      run-then ts (placed at (Operate op) ∷ us) (awaiting fs) (complete fs l) ran ∙ run-next (placed at (Operate op)) us (complete fs l) (awaiting fs') taken ∙ ran',
      settled-closes 3 (left_side at op l) fs r (omega arith) ∙ settled-loose 3 fs (operated at op l r) loose,
    )
completes _ _ _ _ (both levels at ts us l r d e) =
    between at 2 levels And ts us l r refl chains-and (completes conjunction levels ts l d) (completes comparison levels us r e)
completes _ _ _ _ (either levels at ts us l r d e) =
    between at 1 levels Or ts us l r refl chains-or (completes disjunction levels ts l d) (completes conjunction levels us r e)
completes _ _ _ _ (one_operand levels ts r d) = λ fs depth loose.
    (fs, r, completes operand levels ts r d fs depth ∙ ap (λ s. Ok s) (settled-loose 4 fs r (Loose-weaker 3 4 fs (omega arith) loose)), settled-loose 3 fs r loose)
completes _ _ _ _ (one_comparison levels ts r d) = weaker 2 levels ts r (completes comparison levels ts r d)
completes _ _ _ _ (one_conjunction levels ts r d) = weaker 1 levels ts r (completes conjunction levels ts r d)

-- a condition is read as a whole
pub whole_reading : (end : ℕ) (ts : List Placed) (r : Reading) → IsConditionOf ts r → or_else_fault (run ts (awaiting [])) (finish end) ≡ Ok r
whole_reading end ts r d =
    let (gs, u, ran, closes) = completes disjunction max_depth ts r d [] refl tt in
    ap (λ o. or_else_fault o (finish end)) ran ∙ ap (whole end) closes
