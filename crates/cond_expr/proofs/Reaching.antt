-- The states that tokens lead to, and the reading or fault of a text.
use Rattle.std.proofs.Common.{◌≡◌, ℕ, suc, ◌+◌, ◌-◌, ◌<◌, ◌&&◌, ◌⊎◌, inl, inr, ◌≤◌, Bool, true, false, nat_lt, nat_le, List, [], ◌∷◌, ◌++◌, length, Option, None, Some, Result, Ok, Err, if◌then◌else◌, refl, ap, sym, ◌∙◌, subst, arith, append_assoc, MatchResult}
use Rattle.std.proofs.lemmas.Bool.Decides.{nat_tests}
use Rattle.cond_expr.specs.declared.value.CondValue.{CondValue}
use Rattle.cond_expr.specs.declared.value.CondValue.TheVariants.{Truth}
use Rattle.cond_expr.specs.declared.value.Operator.{Operator}
use Rattle.cond_expr.specs.declared.value.Operator.TheVariants.{Or, And, Equal, NotEqual, Less, LessOrEqual, Greater, GreaterOrEqual}
use Rattle.cond_expr.specs.declared.token.Token.{Token}
use Rattle.cond_expr.specs.declared.token.Token.TheVariants.{Value, Not, Open, Close, Operate, Unknown}
use Rattle.cond_expr.specs.Tokens.{Placed, tokens}
use Rattle.cond_expr.specs.ConditionTree.{Reading, constant}
use Rattle.cond_expr.specs.ConditionGrammar.{Strength, operand, placed, Reads, value, max_depth, IsConditionOf, IsReadingOf, BeginsCondition, IsFaultOf}
use Rattle.cond_expr.specs.ConditionMachine.{Frame, group, negation, left_side, depth_of, State, awaiting, complete, settled, chains, strength, operate, close, open_frame, next, run, state_or_fault, or_else_fault, whole, finish, reading_of}
use Rattle.cond_expr.proofs.Settling.{Loose, Loose-any, settled-loose, run-then, run-none, run-next, run-stuck}
use Rattle.cond_expr.proofs.Completeness.{whole_reading}
use Rattle.cond_expr.proofs.Soundness.{bound, to_operand, to_conjunction, to_disjunction, LeftSide, Opened, nothing, a_group, a_negation, a_left_side, Has, close_group_of, ends_of, append-nil, completion, Closed, IsClosed, settled_reads}

-- the state stands for these tokens
pub record Waits (fs : List Frame) (ps : List Placed) : Type 0 where
  pub opened : Opened fs ps
  pub levels : ℕ
  pub depth : depth_of fs + levels ≡ max_depth

abbrev pub Reached : State → List Placed → Type 0
Reached (awaiting fs) ps = Waits fs ps
Reached (complete fs r) ps = Closed 4 fs r ps

IsClosed-reached : (s : State) (ps : List Placed) → IsClosed 4 s ps → Reached s ps
IsClosed-reached (awaiting fs) ps h = absurd h
IsClosed-reached (complete fs r) ps h = h

-- an operand has come
came : (fs : List Frame) (r : Reading) (ps : List Placed) → Has operand fs r ps → Reached (settled 4 fs r) ps
came fs r ps has = IsClosed-reached (settled 4 fs r) ps (settled_reads 4 fs operand r ps (omega arith) (omega arith) has)

-- what the state after a token stands for
ReachedIf : Option State → List Placed → Type 0
ReachedIf None ps = Unit {0}
ReachedIf (Some s) ps = Reached s ps

value_next : (at : ℕ) (v : CondValue) (fs : List Frame) (ps : List Placed) → Waits fs ps → Reached (settled 4 fs (constant v)) (ps ++ placed at (Value v) ∷ [])
value_next at v fs ps w = came fs (constant v) (ps ++ placed at (Value v) ∷ []) (record {
  before = ps;
  ts = placed at (Value v) ∷ [];
  levels = w.levels;
  all = refl;
  depth = w.depth;
  loose = Loose-any fs;
  opened = w.opened;
  reads = value w.levels at v;
})

nat_lt-holds : (a b : ℕ) → nat_lt a b ≡ true → a < b
nat_lt-holds a b h = grind (arith, nat_tests)

-- a frame is opened where the depth allows it
opens : (f : Frame) (fs : List Frame) (ps qs : List Placed) → (depth_of fs < max_depth → Opened (f ∷ fs) qs) → ((depth_of fs < max_depth) → (n : ℕ) × (depth_of (f ∷ fs) + n ≡ max_depth)) →
    ReachedIf (open_frame f fs) qs
unfolding ReachedIf
opens f fs ps qs opened deep = go (nat_lt (depth_of fs) max_depth) refl
  where
    go : (b : Bool) → nat_lt (depth_of fs) max_depth ≡ b → ReachedIf (if b then Some (awaiting (f ∷ fs)) else None) qs
    go true e =
        let below = nat_lt-holds (depth_of fs) max_depth e in
        let (n, is) = deep below in
        record { opened = opened below; levels = n; depth = is }
    go false e = tt

rest_of_depth : (n : ℕ) → n < 64 → (m : ℕ) × (suc n + m ≡ 64)
rest_of_depth n h = (64 - suc n, omega arith)

-- the left side of an operator
left_side_reads : (op : Operator) (L : Strength) (levels : ℕ) (ts : List Placed) (r : Reading) → strength op ≤ bound L → (strength op ≡ 3 → 4 ≤ bound L) → Reads L levels ts r → LeftSide op levels ts r
left_side_reads Or L levels ts r h c d = to_disjunction L levels ts r d
left_side_reads And L levels ts r h c d = to_conjunction L levels ts r h d
left_side_reads Equal L levels ts r h c d = to_operand L levels ts r (c refl) d
left_side_reads NotEqual L levels ts r h c d = to_operand L levels ts r (c refl) d
left_side_reads Less L levels ts r h c d = to_operand L levels ts r (c refl) d
left_side_reads LessOrEqual L levels ts r h c d = to_operand L levels ts r (c refl) d
left_side_reads Greater L levels ts r h c d = to_operand L levels ts r (c refl) d
left_side_reads GreaterOrEqual L levels ts r h c d = to_operand L levels ts r (c refl) d

-- an operator comes after its left side
operator_waits : (at : ℕ) (op : Operator) (L : Strength) (fs : List Frame) (r : Reading) (ps : List Placed) → strength op ≤ bound L → (strength op ≡ 3 → 4 ≤ bound L) →
    Loose (strength op) fs → Has L fs r ps → Waits (left_side at op r ∷ fs) (ps ++ placed at (Operate op) ∷ [])
operator_waits at op L fs r ps high operands outside has = record {
  opened = subst (λ x. Opened (left_side at op r ∷ fs) x)
      (sym (append_assoc has.before has.ts (placed at (Operate op) ∷ [])) ∙ ap (λ x. x ++ placed at (Operate op) ∷ []) (sym has.all))
      (a_left_side fs has.before has.ts at has.levels op r has.depth outside (left_side_reads op L has.levels has.ts r high operands has.reads) has.opened);
  levels = has.levels;
  depth = has.depth;
}

operate_closed : (at : ℕ) (op : Operator) (s : State) (ps : List Placed) → strength op < 3 → IsClosed (strength op) s ps → ReachedIf (operate at op s) (ps ++ placed at (Operate op) ∷ [])
unfolding ReachedIf
operate_closed at op (awaiting fs) ps weak h = absurd h
operate_closed at op (complete fs r) ps weak h = operator_waits at op h.level fs r ps h.high (λ e. absurd (omega arith)) h.outside h.has

strength_cases : (op : Operator) → (strength op < 3) ⊎ (strength op ≡ 3)
strength_cases Or = inl (omega arith)
strength_cases And = inl (omega arith)
strength_cases Equal = inr refl
strength_cases NotEqual = inr refl
strength_cases Less = inr refl
strength_cases LessOrEqual = inr refl
strength_cases Greater = inr refl
strength_cases GreaterOrEqual = inr refl

strength-positive : (op : Operator) → 0 < strength op
strength-positive Or = omega arith
strength-positive And = omega arith
strength-positive Equal = omega arith
strength-positive NotEqual = omega arith
strength-positive Less = omega arith
strength-positive LessOrEqual = omega arith
strength-positive Greater = omega arith
strength-positive GreaterOrEqual = omega arith

below_three : (n m : ℕ) → n ≡ 3 → nat_le 3 n && nat_le 3 m ≡ false → m < 3
below_three n m e h = grind (arith, nat_tests)

loose_from_chains : (op : Operator) (fs : List Frame) → strength op ≡ 3 → Loose 4 fs → chains op fs ≡ false → Loose 3 fs
loose_from_chains op [] e l h = tt
loose_from_chains op (group ∷ fs) e l h = omega arith
loose_from_chains op (negation at ∷ fs) e l h = absurd (omega arith)
loose_from_chains op (left_side at op' r ∷ fs) e l h = below_three (strength op) (strength op') e h

operator_next : (at : ℕ) (op : Operator) (fs : List Frame) (r : Reading) (ps : List Placed) → Closed 4 fs r ps → ReachedIf (next at (Operate op) (complete fs r)) (ps ++ placed at (Operate op) ∷ [])
unfolding ReachedIf
operator_next at op fs r ps c = go (chains op fs) refl (strength_cases op)
  where
    go : (b : Bool) → chains op fs ≡ b → (strength op < 3) ⊎ (strength op ≡ 3) → ReachedIf (if b then None else operate at op (settled (strength op) fs r)) (ps ++ placed at (Operate op) ∷ [])
    go true e cases = tt
    go false e (inl weak) =
        let high = c.high in
        operate_closed at op (settled (strength op) fs r) ps weak (settled_reads (strength op) fs c.level r ps (strength-positive op) (omega arith) c.has)
    go false e (inr three) =
        let high = c.high in
        let loose = loose_from_chains op fs three c.outside e in
        subst (λ s. ReachedIf (operate at op s) (ps ++ placed at (Operate op) ∷ [])) (sym (settled-loose (strength op) fs r (subst (λ n. Loose n fs) (sym three) loose)))
        (operator_waits at op c.level fs r ps (omega arith) (λ _. high) (subst (λ n. Loose n fs) (sym three) loose) c.has)

close_next : (at : ℕ) (s : State) (ps : List Placed) → IsClosed 1 s ps → ReachedIf (close s) (ps ++ placed at Close ∷ [])
unfolding ReachedIf
close_next at (awaiting fs) ps h = absurd h
close_next at (complete [] r) ps h = tt
close_next at (complete (group ∷ fs) r) ps h = came fs r (ps ++ placed at Close ∷ []) (close_group_of h.level fs r ps at h.has)
close_next at (complete (negation at' ∷ fs) r) ps h = tt
close_next at (complete (left_side at' op l ∷ fs) r) ps h = tt

-- a token that can stand leads to a state that stands for the tokens with it
next_reached : (at : ℕ) (t : Token) (s : State) (ps : List Placed) → Reached s ps → ReachedIf (next at t s) (ps ++ placed at t ∷ [])
unfolding ReachedIf
next_reached at (Value v) (awaiting fs) ps w = value_next at v fs ps w
next_reached at Not (awaiting fs) ps w = opens (negation at) fs ps (ps ++ placed at Not ∷ []) (λ below. a_negation fs ps at below w.opened) (rest_of_depth (depth_of fs))
next_reached at Open (awaiting fs) ps w = opens group fs ps (ps ++ placed at Open ∷ []) (λ below. a_group fs ps at below w.opened) (rest_of_depth (depth_of fs))
next_reached at Close (awaiting fs) ps w = tt
next_reached at (Operate op) (awaiting fs) ps w = tt
next_reached at Unknown (awaiting fs) ps w = tt
next_reached at (Value v) (complete fs r) ps c = tt
next_reached at Not (complete fs r) ps c = tt
next_reached at Open (complete fs r) ps c = tt
next_reached at Close (complete fs r) ps c =
    let high = c.high in
    close_next at (settled 1 fs r) ps (settled_reads 1 fs c.level r ps (omega arith) (omega arith) c.has)
next_reached at (Operate op) (complete fs r) ps c = operator_next at op fs r ps c
next_reached at Unknown (complete fs r) ps c = tt

-- at each state that tokens lead to some condition can still come
viable : (s : State) (ps : List Placed) → Reached s ps → BeginsCondition ps
viable (awaiting fs) ps w =
    let token : Placed = placed 0 (Value (Truth true)) in
    let has : Has operand fs (constant (Truth true)) (ps ++ token ∷ []) = record {
      before = ps;
      ts = token ∷ [];
      levels = w.levels;
      all = refl;
      depth = w.depth;
      loose = Loose-any fs;
      opened = w.opened;
      reads = value w.levels 0 (Truth true);
    } in
    let (more, r, is) = completion fs operand (constant (Truth true)) (ps ++ token ∷ []) has in
    (token ∷ more, r, subst (λ x. IsConditionOf x r) (append_assoc ps (token ∷ []) more) is)
viable (complete fs r) ps c = completion fs c.level r ps c.has

-- the first of these tokens that can't stand
record Sticks (start : State) (before ts : List Placed) (at : ℕ) : Type 0 where
  prefix : List Placed
  token : Placed
  behind : List Placed
  state : State
  all : ts ≡ prefix ++ token ∷ behind
  place : at ≡ token.at
  ran : run prefix start ≡ Ok state
  reached : Reached state (before ++ prefix)
  stuck : next token.at token.token state ≡ None

Leads : State → List Placed → List Placed → Result State ℕ → Type 0
Leads start before ts r = MatchResult r (λ s. Reached s (before ++ ts)) (Sticks start before ts)

-- one token further
leads_on : (t : Placed) (ts before : List Placed) (s s' : State) (r : Result State ℕ) → next t.at t.token s ≡ Some s' → Leads s' (before ++ t ∷ []) ts r → Leads s before (t ∷ ts) r
unfolding Leads
leads_on t ts before s s' (Ok u) e h = subst (λ x. Reached u x) (append_assoc before (t ∷ []) ts) h
leads_on t ts before s s' (Err at) e h = record {
  prefix = t ∷ h.prefix;
  token = h.token;
  behind = h.behind;
  state = h.state;
  all = ap (λ x. t ∷ x) h.all;
  place = h.place;
  ran = run-next t h.prefix s s' e ∙ h.ran;
  reached = subst (λ x. Reached h.state x) (append_assoc before (t ∷ []) h.prefix) h.reached;
  stuck = h.stuck;
}

leads : (ts : List Placed) (s : State) (before : List Placed) → Reached s before → Leads s before ts (run ts s)
unfolding Leads run ReachedIf
leads [] s before reached = subst (λ x. Reached s x) (sym (append-nil before)) reached
leads (t ∷ ts) s before reached = go (next t.at t.token s) refl (next_reached t.at t.token s before reached) (λ s' r. leads ts s' (before ++ t ∷ []) r)
  where
    go : (o : Option State) → next t.at t.token s ≡ o → ReachedIf o (before ++ t ∷ []) → ((s' : State) → Reached s' (before ++ t ∷ []) → Leads s' (before ++ t ∷ []) ts (run ts s')) →
        Leads s before (t ∷ ts) (state_or_fault t.at o (run ts))
    go None e r ih = record {
      prefix = [];
      token = t;
      behind = ts;
      state = s;
      all = refl;
      place = refl;
      ran = run-none s;
      reached = subst (λ x. Reached s x) (sym (append-nil before)) reached;
      stuck = e;
    }
    go (Some s') e r ih = leads_on t ts before s s' (run ts s') e (ih s' r)

-- nothing is read at first
start_reached : Reached (awaiting []) []
start_reached = record { opened = nothing; levels = max_depth; depth = refl }

-- a reading, or a fault where the text ends
abbrev IsAnswer : List ℕ → Result Reading ℕ → Type 0
IsAnswer text r = MatchResult r (IsReadingOf text) (IsFaultOf text)

not_whole : (text : List ℕ) (s : State) → run (tokens text) (awaiting []) ≡ Ok s → finish (length text) s ≡ Err (length text) → Reached s (tokens text) → IsFaultOf text (length text)
not_whole text s ran stops reached = record {
  before = tokens text;
  after = [];
  all = sym (append-nil (tokens text));
  stands = viable s (tokens text) reached;
  stops = (refl, λ r is. unread r (sym (ap (λ o. or_else_fault o (finish (length text))) ran ∙ stops) ∙ whole_reading (length text) (tokens text) r is));
}
  where
    unread : (r : Reading) → ◌≡◌ {A = Result Reading ℕ} (Err (length text)) (Ok r) → ⊥
    unread r e = cc

answer_whole : (text : List ℕ) (fs : List Frame) (r : Reading) (s : State) → run (tokens text) (awaiting []) ≡ Ok (complete fs r) → Reached (complete fs r) (tokens text) → settled 1 fs r ≡ s → IsClosed 1 s (tokens text) →
    IsAnswer text (whole (length text) s)
answer_whole text fs r (awaiting gs) ran reached e h = absurd h
answer_whole text fs r (complete [] u) ran reached e h = ends_of h.level u (tokens text) h.has
answer_whole text fs r (complete (g ∷ gs) u) ran reached e h = not_whole text (complete fs r) ran (ap (whole (length text)) e) reached

answer_end : (text : List ℕ) (s : State) → run (tokens text) (awaiting []) ≡ Ok s → Reached s (tokens text) → IsAnswer text (finish (length text) s)
answer_end text (awaiting fs) ran reached = not_whole text (awaiting fs) ran refl reached
answer_end text (complete fs r) ran reached =
    let high = reached.high in
    answer_whole text fs r (settled 1 fs r) ran reached refl (settled_reads 1 fs reached.level r (tokens text) (omega arith) (omega arith) reached.has)

stuck_fault : (text : List ℕ) (at : ℕ) → Sticks (awaiting []) [] (tokens text) at → IsFaultOf text at
stuck_fault text at h = record {
  before = h.prefix;
  after = h.token ∷ h.behind;
  all = h.all;
  stands = viable h.state h.prefix h.reached;
  stops = (h.place, λ w. unread w.1 (sym (stays w.0) ∙ whole_reading 0 ((h.prefix ++ h.token ∷ []) ++ w.0) w.1 w.2));
}
  where
    stays : (more : List Placed) → or_else_fault (run ((h.prefix ++ h.token ∷ []) ++ more) (awaiting [])) (finish 0) ≡ Err h.token.at
    stays more = ap (λ o. or_else_fault o (finish 0))
        (ap (λ x. run x (awaiting [])) (append_assoc h.prefix (h.token ∷ []) more) ∙ run-then h.prefix (h.token ∷ more) (awaiting []) h.state h.ran ∙ run-stuck h.token more h.state h.stuck)

    unread : (r : Reading) → ◌≡◌ {A = Result Reading ℕ} (Err h.token.at) (Ok r) → ⊥
    unread r e = cc

-- What the machine answers is the reading of the text, or its fault.
pub reading_is_right : (text : List ℕ) → MatchResult (reading_of text) (IsReadingOf text) (IsFaultOf text)
unfolding Leads
reading_is_right text = go (run (tokens text) (awaiting [])) refl (leads (tokens text) (awaiting []) [] start_reached)
  where
    go : (o : Result State ℕ) → run (tokens text) (awaiting []) ≡ o → Leads (awaiting []) [] (tokens text) o → IsAnswer text (or_else_fault o (finish (length text)))
    go (Ok s) e h = answer_end text s e h
    go (Err at) e h = stuck_fault text at h

-- a text has one reading at most, and the machine answers it
pub one_reading : (text : List ℕ) (r : Reading) → IsReadingOf text r → reading_of text ≡ Ok r
one_reading text r is = whole_reading (length text) (tokens text) r is
