-- Frames that are closed over an operand, and tokens that are read one after another.
use Rattle.std.proofs.Common.{◌≡◌, ℕ, ◌<◌, ◌≤◌, Bool, true, false, ◌&&◌, nat_le, List, [], ◌∷◌, ◌++◌, Option, None, Some, Ok, Err, if◌then◌else◌, refl, ap, sym, ◌∙◌, arith}
use Rattle.std.proofs.lemmas.Bool.Decides.{nat_tests}
use Rattle.cond_expr.specs.declared.value.Operator.{Operator}
use Rattle.cond_expr.specs.declared.value.Operator.TheVariants.{Or, And, Equal, NotEqual, Less, LessOrEqual, Greater, GreaterOrEqual}
use Rattle.cond_expr.specs.Tokens.{Placed}
use Rattle.cond_expr.specs.ConditionTree.{Reading}
use Rattle.cond_expr.specs.ConditionGrammar.{IsComparison}
use Rattle.cond_expr.specs.ConditionMachine.{Frame, group, negation, left_side, strength, frame_strength, closed, State, awaiting, complete, settled, chains, next, run, state_or_fault, or_else_fault}

-- the innermost frame binds less strongly
abbrev pub Loose : ℕ → List Frame → Type 0
Loose s [] = Unit {0}
Loose s (f ∷ fs) = frame_strength f < s

pub Loose-weaker : (s t : ℕ) (fs : List Frame) → s ≤ t → Loose s fs → Loose t fs
Loose-weaker s t [] h l = tt
Loose-weaker s t (f ∷ fs) h l = omega arith

pub frame_strength-le : (f : Frame) → frame_strength f ≤ 4
frame_strength-le group = omega arith
frame_strength-le (negation at) = omega arith
frame_strength-le (left_side at Or l) = omega arith
frame_strength-le (left_side at And l) = omega arith
frame_strength-le (left_side at Equal l) = omega arith
frame_strength-le (left_side at NotEqual l) = omega arith
frame_strength-le (left_side at Less l) = omega arith
frame_strength-le (left_side at LessOrEqual l) = omega arith
frame_strength-le (left_side at Greater l) = omega arith
frame_strength-le (left_side at GreaterOrEqual l) = omega arith

pub Loose-any : (fs : List Frame) → Loose 5 fs
Loose-any [] = tt
Loose-any (f ∷ fs) = omega (arith, frame_strength-le f)

pub nat_le-true : (a b : ℕ) → a ≤ b → nat_le a b ≡ true
nat_le-true a b h = grind (arith, nat_tests)

pub nat_le-false : (a b : ℕ) → b < a → nat_le a b ≡ false
nat_le-false a b h = grind (arith, nat_tests)

pub nat_le-holds : (a b : ℕ) → nat_le a b ≡ true → a ≤ b
nat_le-holds a b h = grind (arith, nat_tests)

pub settled-loose : (s : ℕ) (fs : List Frame) (r : Reading) → Loose s fs → settled s fs r ≡ complete fs r
settled-loose s [] r l = refl
settled-loose s (f ∷ fs) r l = ap (λ b. if b then settled s fs (closed f r) else complete (f ∷ fs) r) (nat_le-false s (frame_strength f) l)

pub settled-closes : (s : ℕ) (f : Frame) (fs : List Frame) (r : Reading) → s ≤ frame_strength f → settled s (f ∷ fs) r ≡ settled s fs (closed f r)
settled-closes s f fs r h = ap (λ b. if b then settled s fs (closed f r) else complete (f ∷ fs) r) (nat_le-true s (frame_strength f) h)

-- closing further
abbrev pub resettled : ℕ → State → State
resettled s (complete fs r) = settled s fs r
resettled s (awaiting fs) = awaiting fs

pub resettled-settled : (s t : ℕ) (fs : List Frame) (r : Reading) → s ≤ t → resettled s (settled t fs r) ≡ settled s fs r
resettled-settled s t [] r h = refl
resettled-settled s t (f ∷ fs) r h = go (nat_le t (frame_strength f)) refl (resettled-settled s t fs (closed f r) h)
  where
    go : (b : Bool) → nat_le t (frame_strength f) ≡ b → resettled s (settled t fs (closed f r)) ≡ settled s fs (closed f r) →
        resettled s (if b then settled t fs (closed f r) else complete (f ∷ fs) r) ≡ settled s (f ∷ fs) r
    go true e ih =
        let at_least = nat_le-holds t (frame_strength f) e in
        ih ∙ sym (settled-closes s f fs r (omega arith))
    go false e ih = refl

and-false : (p : Bool) → p && false ≡ false
and-false true = refl
and-false false = refl

pub chains-loose : (op : Operator) (fs : List Frame) → Loose 3 fs → chains op fs ≡ false
chains-loose op [] l = refl
chains-loose op (group ∷ fs) l = refl
chains-loose op (negation at ∷ fs) l = refl
chains-loose op (left_side at op' r ∷ fs) l = ap (λ b. nat_le 3 (strength op) && b) (nat_le-false 3 (strength op') l) ∙ and-false (nat_le 3 (strength op))

pub chains-or : (fs : List Frame) → chains Or fs ≡ false
chains-or [] = refl
chains-or (group ∷ fs) = refl
chains-or (negation at ∷ fs) = refl
chains-or (left_side at op' r ∷ fs) = refl

pub chains-and : (fs : List Frame) → chains And fs ≡ false
chains-and [] = refl
chains-and (group ∷ fs) = refl
chains-and (negation at ∷ fs) = refl
chains-and (left_side at op' r ∷ fs) = refl

pub comparison-strength : (op : Operator) → IsComparison op → strength op ≡ 3
comparison-strength Or h = absurd h
comparison-strength And h = absurd h
comparison-strength Equal h = refl
comparison-strength NotEqual h = refl
comparison-strength Less h = refl
comparison-strength LessOrEqual h = refl
comparison-strength Greater h = refl
comparison-strength GreaterOrEqual h = refl

pub run-append : (ts us : List Placed) (s : State) → run (ts ++ us) s ≡ or_else_fault (run ts s) (run us)
unfolding run
run-append [] us s = refl
run-append (t ∷ ts) us s = go (next t.at t.token s) (run-append ts us)
  where
    go : (o : Option State) → ((s' : State) → run (ts ++ us) s' ≡ or_else_fault (run ts s') (run us)) →
        state_or_fault t.at o (run (ts ++ us)) ≡ or_else_fault (state_or_fault t.at o (run ts)) (run us)
    go None ih = refl
    go (Some s') ih = ih s'

-- a token that can stand
pub run-next : (t : Placed) (ts : List Placed) (s s' : State) → next t.at t.token s ≡ Some s' → run (t ∷ ts) s ≡ run ts s'
unfolding run
run-next t ts s s' e = ap (λ o. state_or_fault t.at o (run ts)) e

-- a token that can't
pub run-stuck : (t : Placed) (ts : List Placed) (s : State) → next t.at t.token s ≡ None → run (t ∷ ts) s ≡ Err t.at
unfolding run
run-stuck t ts s e = ap (λ o. state_or_fault t.at o (run ts)) e

pub run-none : (s : State) → run [] s ≡ Ok s
unfolding run
run-none s = refl

-- tokens, and then the tokens after them
pub run-then : (ts us : List Placed) (s s' : State) → run ts s ≡ Ok s' → run (ts ++ us) s ≡ run us s'
run-then ts us s s' e = run-append ts us s ∙ ap (λ o. or_else_fault o (run us)) e
