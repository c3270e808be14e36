-- Bytes that are read one after another.
use Rattle.std.proofs.Common.{◌≡◌, ℕ, suc, ◌+◌, List, [], ◌∷◌, ◌++◌, length, Option, Some, None, Ok, Err, refl, ap, ◌∙◌, arith}
use Rattle.json_path.specs.PathMachine.{State, next, run, state_or_fault, or_else_fault}

-- a byte that can stand
pub run-next : (at b : ℕ) (bs : List ℕ) (s s' : State) → next b s ≡ Some s' → run at (b ∷ bs) s ≡ run (at + 1) bs s'
unfolding run
run-next at b bs s s' e = ap (λ o. state_or_fault at o (run (at + 1) bs)) e

-- a byte that can't
pub run-stuck : (at b : ℕ) (bs : List ℕ) (s : State) → next b s ≡ None → run at (b ∷ bs) s ≡ Err at
unfolding run
run-stuck at b bs s e = ap (λ o. state_or_fault at o (run (at + 1) bs)) e

pub run-none : (at : ℕ) (s : State) → run at [] s ≡ Ok s
unfolding run
run-none at s = refl

pub run-append : (at : ℕ) (xs ys : List ℕ) (s : State) → run at (xs ++ ys) s ≡ or_else_fault (run at xs s) (run (at + length xs) ys)
unfolding run
run-append at [] ys s = ap (λ n. run n ys s) same
  where
    same : at ≡ at + 0
    same = omega arith
run-append at (b ∷ bs) ys s = go (next b s) (run-append (at + 1) bs ys)
  where
    same : (at + 1) + length bs ≡ at + suc (length bs)
    same = omega arith

    go : (o : Option State) → ((s' : State) → run (at + 1) (bs ++ ys) s' ≡ or_else_fault (run (at + 1) bs s') (run ((at + 1) + length bs) ys)) →
        state_or_fault at o (run (at + 1) (bs ++ ys)) ≡ or_else_fault (state_or_fault at o (run (at + 1) bs)) (run (at + suc (length bs)) ys)
    go None ih = refl
    go (Some s') ih = ih s' ∙ ap (λ n. or_else_fault (run (at + 1) bs s') (run n ys)) same

-- bytes, and then the bytes after them
pub run-then : (at : ℕ) (xs ys : List ℕ) (s s' : State) → run at xs s ≡ Ok s' → run at (xs ++ ys) s ≡ run (at + length xs) ys s'
run-then at xs ys s s' e = run-append at xs ys s ∙ ap (λ o. or_else_fault o (run (at + length xs) ys)) e
