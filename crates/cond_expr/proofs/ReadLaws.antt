-- One turn of the reading of a text.
use Rattle.std.proofs.Common.{◌≡◌, ℕ, ◌+◌, ◌<◌, ◌≤◌, Bool, true, false, ◌==◌, List, [], ◌∷◌, ◌++◌, length, drop, get_or, Option, Some, None, Result, Ok, Err, MatchResult, refl, ap, sym, ◌∙◌, subst, arith, IfOk}
use Rattle.std.proofs.lemmas.Bool.Decides.{nat_tests}
use Rattle.cond_expr.specs.declared.token.Token.{Token}
use Rattle.cond_expr.specs.declared.value.CondError.{CondError}
use Rattle.cond_expr.specs.declared.value.CondError.TheVariants.{BadCond}
use Rattle.cond_expr.specs.declared.parse.Parser.{Parser}
use Rattle.cond_expr.specs.declared.parse.Pending.{Pending}
use Rattle.std.proofs.lemmas.List.{nil_from_length}
use Rattle.cond_expr.specs.Tokens.{token_at, tokens_from, tokens}
use Rattle.cond_expr.specs.ConditionTree.{Reading}
use Rattle.cond_expr.specs.ConditionGrammar.{placed, IsReadingOf, IsFaultOf}
use Rattle.cond_expr.specs.ConditionMachine as machine
use Rattle.cond_expr.specs.ConditionMachine.{State, awaiting, complete, settled, next, run, finish, whole, or_else_fault, reading_of}
use Rattle.cond_expr.specs.Steps.{steps_of}
use Rattle.cond_expr.specs.ConditionGives.{Gives}
use Rattle.cond_expr.specs.ConditionHolding.{Holds, Takes, IsOperandHeld, pending_of, left_steps, shape}
use Rattle.cond_expr.proofs.Settling.{run-next, run-stuck, run-none}
use Rattle.cond_expr.proofs.ParserLaws.{settled_complete, no_push}
use Rattle.cond_expr.proofs.TokenLaws.{tokens_from-space, tokens_from-token, tokens_from-end}
use Rattle.cond_expr.proofs.Reaching.{reading_is_right, one_reading}

-- the tokens from a place on, after this state, lead where all tokens lead
abbrev pub Reads_on : Parser → ℕ → List ℕ → Type 0
Reads_on parser at text = (s : State) × Holds parser s × (run (tokens_from at 0 (drop at text)) s ≡ run (tokens text) (awaiting []))

pub space_turn : (parser : Parser) (at : ℕ) (text : List ℕ) → at < length text → get_or text at 0 ≡ 32 → Reads_on parser at text → Reads_on parser (at + 1) text
space_turn parser at text within is h = (h.0, h.1, ap (λ ts. run ts h.0) (sym (tokens_from-space at text within is)) ∙ h.2)

not_equal : (n : ℕ) → (n ≡ 32 → ⊥) → n == 32 ≡ false
not_equal n h = grind (arith, nat_tests)

pub token_turn : (old new : Parser) (at n : ℕ) (t : Token) (text : List ℕ) → at < length text → (get_or text at 0 ≡ 32 → ⊥) → 0 < n → ◌≡◌ {A = Token × ℕ} (t, n) (token_at (drop at text)) →
    ((s : State) → Holds old s → Takes true (next at t s) new) → Reads_on old at text → Reads_on new (at + n) text
token_turn old new at n t text within not_space some is takes h = go (next at t h.0) refl (takes h.0 h.1)
  where
    ahead : run (placed at t ∷ tokens_from (at + n) 0 (drop (at + n) text)) h.0 ≡ run (tokens text) (awaiting [])
    ahead =
        ap (λ u. run (placed at u.0 ∷ tokens_from (at + u.1) 0 (drop (at + u.1) text)) h.0) is
        ∙ ap (λ ts. run ts h.0) (sym (tokens_from-token at text within (not_equal (get_or text at 0) not_space) (subst (λ u. 0 < u.1) is some))) ∙ h.2

    go : (o : Option State) → next at t h.0 ≡ o → Takes true o new → Reads_on new (at + n) text
    go None e taken = absurd taken
    go (Some s) e taken = (s, taken, sym (run-next (placed at t) (tokens_from (at + n) 0 (drop (at + n) text)) h.0 s e) ∙ ahead)

pub token_stop : (old new : Parser) (at n : ℕ) (t : Token) (text : List ℕ) → at < length text → (get_or text at 0 ≡ 32 → ⊥) → 0 < n → ◌≡◌ {A = Token × ℕ} (t, n) (token_at (drop at text)) →
    ((s : State) → Holds old s → Takes false (next at t s) new) → Reads_on old at text → reading_of text ≡ Err at
token_stop old new at n t text within not_space some is takes h = go (next at t h.0) refl (takes h.0 h.1)
  where
    ahead : run (placed at t ∷ tokens_from (at + n) 0 (drop (at + n) text)) h.0 ≡ run (tokens text) (awaiting [])
    ahead =
        ap (λ u. run (placed at u.0 ∷ tokens_from (at + u.1) 0 (drop (at + u.1) text)) h.0) is
        ∙ ap (λ ts. run ts h.0) (sym (tokens_from-token at text within (not_equal (get_or text at 0) not_space) (subst (λ u. 0 < u.1) is some))) ∙ h.2

    go : (o : Option State) → next at t h.0 ≡ o → Takes false o new → reading_of text ≡ Err at
    go None e taken = ap (λ o. or_else_fault o (finish (length text))) (sym ahead ∙ run-stuck (placed at t) (tokens_from (at + n) 0 (drop (at + n) text)) h.0 e)
    go (Some s) e taken = absurd taken

pub end_turn : (parser : Parser) (at : ℕ) (text : List ℕ) (r : Result Reading CondError) → length text ≤ at → ((s : State) → Holds parser s → Gives r (finish (length text) s)) → Reads_on parser at text → Gives r (reading_of text)
end_turn parser at text r past gives h =
    let ran : run (tokens text) (awaiting []) ≡ Ok h.0 = sym h.2 ∙ ap (λ ts. run ts h.0) (tokens_from-end at text past) ∙ run-none h.0 in
    subst (Gives r) (sym (ap (λ o. or_else_fault o (finish (length text))) ran)) (gives h.0 h.1)

-- Where nothing is open any more, the steps are those of the reading.
pub finished : (old mid : Parser) (end : ℕ) → old.awaiting ≡ false → ((fs : List machine.Frame) (r : Reading) → IsOperandHeld old fs r → Holds mid (settled 1 fs r)) → mid.pending.items ≡ [] →
    (s : State) → Holds old s → (r : Reading) × (mid.steps.items ≡ steps_of r) × (finish end s ≡ Ok r)
finished old mid end came settles empty (awaiting fs) held = absurd (apart old.awaiting came held.awaits_is)
  where
    apart : (b : Bool) → b ≡ false → b ≡ true → ⊥
    apart b e h = cc
finished old mid end came settles empty (complete fs q) held =
    let (gs, u, is) = settled_complete 1 fs q in
    let held' : IsOperandHeld mid gs u = subst (Holds mid) is (settles fs q held) in
    let none : gs ≡ [] = nothing_pending gs (sym held'.pending_is ∙ empty) in
    (u, held'.steps_are ∙ ap (λ x. left_steps x ++ steps_of u) none, ap (whole end) (is ∙ ap (λ x. complete x u) none))
  where
    nothing_pending : (gs : List machine.Frame) → pending_of gs ≡ [] → gs ≡ []
    nothing_pending [] e = refl
    nothing_pending (g ∷ gs) e = absurd (no_push (pending_of gs) (shape g) e)

-- what a call says of its text, where it gives the reading or the place of the fault
pub gives_reading : (text : List ℕ) (r : Result Reading CondError) → Gives r (reading_of text) → IfOk r (λ cond. IsReadingOf text cond)
gives_reading text (Ok x) g = subst (λ o. MatchResult o (IsReadingOf text) (IsFaultOf text)) g (reading_is_right text)
gives_reading text (Err e) g = tt

pub gives_one : (text : List ℕ) (r : Result Reading CondError) → Gives r (reading_of text) → IfOk r (λ cond. (other : Reading) → IsReadingOf text other → other ≡ cond)
gives_one text (Ok x) g = λ other is. same other (sym (one_reading text other is) ∙ g)
  where
    same : (other : Reading) → ◌≡◌ {A = Result Reading ℕ} (Ok other) (Ok x) → other ≡ x
    same other e = cc
gives_one text (Err e) g = tt

gives_fault : (text : List ℕ) (r : Result Reading CondError) (at : ℕ) → Gives r (reading_of text) → r ≡ Err (BadCond at) → reading_of text ≡ Err at
gives_fault text r at g e = subst (λ x. Gives x (reading_of text)) e g

pub gives_refused : (text : List ℕ) (r : Result Reading CondError) (at : ℕ) → Gives r (reading_of text) → r ≡ Err (BadCond at) → (other : Reading) → IsReadingOf text other → ⊥
gives_refused text r at g e other is = apart (sym (gives_fault text r at g e) ∙ one_reading text other is)
  where
    apart : ◌≡◌ {A = Result Reading ℕ} (Err at) (Ok other) → ⊥
    apart e = cc

pub gives_place : (text : List ℕ) (r : Result Reading CondError) (at : ℕ) → Gives r (reading_of text) → r ≡ Err (BadCond at) → IsFaultOf text at
gives_place text r at g e = subst (λ o. MatchResult o (IsReadingOf text) (IsFaultOf text)) (gives_fault text r at g e) (reading_is_right text)

no_length : (n : ℕ) → n == 0 ≡ true → n ≡ 0
no_length n h = grind (arith, nat_tests)

-- a slice that is empty is that of no elements
pub empty_pending : (xs items : List Pending) (r : Bool) → r ≡ (length xs == 0) → r ≡ true → xs ≡ items → items ≡ []
empty_pending xs items r is none same = sym same ∙ nil_from_length xs (no_length (length xs) (sym is ∙ none))
