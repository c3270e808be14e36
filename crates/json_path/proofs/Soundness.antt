-- What the machine reads is in the grammar, and at each state some path can still come.
use Rattle.std.proofs.Common.{◌≡◌, ℕ, suc, ◌+◌, ◌<◌, ◌≤◌, Bool, true, false, not, ◌&&◌, ◌==◌, inl, inr, nat_lt, List, [], ◌∷◌, ◌++◌, length, Option, Some, None, Result, Ok, Err, MatchResult, if◌then◌else◌, refl, ap, sym, ◌∙◌, subst, arith, append_assoc, length-append}
use Rattle.std.specs.List.{list_all}
use Rattle.std.specs.Char.{is_ascii_digit}
use Rattle.std.specs.Str.Parse.{digits_value}
use Rattle.std.proofs.lemmas.Bool.Decides.{nat_tests}
use Rattle.json_path.specs.declared.path.Step.{Step}
use Rattle.json_path.specs.declared.path.Step.TheVariants.{Name, Index, All}
use Rattle.json_path.specs.PathGrammar.{is_name_byte, is_quotable, IsStepText, AreSteps, no_step, a_step, IsPathOf, BeginsPath, IsFaultOf}
use Rattle.json_path.specs.PathMachine.{State, start, next, begin_step, with_index, run, state_or_fault, finish, or_else_fault, path_of}
use Rattle.json_path.proofs.Reading.{run-next, run-stuck, run-none, run-then}
use Rattle.json_path.proofs.Completeness.{between, after_dot, in_name, after_bracket, in_quotes, after_quote, in_index, after_star, append-nil, whole_path}

-- these bytes lead to this state
pub data Reached : State → List ℕ → Type 0 where
  at_start : Reached start []
  at_between : (ss : List Step) (rest : List ℕ) → AreSteps rest ss → Reached (between ss) (36 ∷ rest)
  at_dot : (ss : List Step) (rest : List ℕ) → AreSteps rest ss → Reached (after_dot ss) (36 ∷ (rest ++ 46 ∷ []))
  at_name : (ss : List Step) (rest name : List ℕ) → AreSteps rest ss → 0 < length name → list_all is_name_byte name ≡ true → Reached (in_name ss name) (36 ∷ (rest ++ 46 ∷ name))
  at_bracket : (ss : List Step) (rest : List ℕ) → AreSteps rest ss → Reached (after_bracket ss) (36 ∷ (rest ++ 91 ∷ []))
  at_quotes : (ss : List Step) (rest name : List ℕ) → AreSteps rest ss → list_all is_quotable name ≡ true → Reached (in_quotes ss name) (36 ∷ (rest ++ 91 ∷ 39 ∷ name))
  at_quote : (ss : List Step) (rest name : List ℕ) → AreSteps rest ss → list_all is_quotable name ≡ true → Reached (after_quote ss name) (36 ∷ (rest ++ 91 ∷ 39 ∷ (name ++ 39 ∷ [])))
  at_index : (ss : List Step) (rest ds : List ℕ) → AreSteps rest ss → 0 < length ds → length ds ≤ 9 → list_all is_ascii_digit ds ≡ true → Reached (in_index ss ds) (36 ∷ (rest ++ 91 ∷ ds))
  at_star : (ss : List Step) (rest : List ℕ) → AreSteps rest ss → Reached (after_star ss) (36 ∷ (rest ++ 91 ∷ 42 ∷ []))

ReachedIf : Option State → List ℕ → Type 0
ReachedIf None ps = Unit {0}
ReachedIf (Some s) ps = Reached s ps

AreSteps-push : (rest bytes : List ℕ) (ss : List Step) (s : Step) → AreSteps rest ss → IsStepText s bytes → AreSteps (rest ++ bytes) (ss ++ s ∷ [])
AreSteps-push _ bytes _ s no_step is = subst (λ x. AreSteps x (s ∷ [])) (append-nil bytes) (a_step bytes [] s [] is no_step)
AreSteps-push _ bytes _ s (a_step first rest t ts one later) is =
    subst (λ x. AreSteps x (t ∷ (ts ++ s ∷ []))) (sym (append_assoc first rest bytes)) (a_step first (rest ++ bytes) t (ts ++ s ∷ []) one (AreSteps-push rest bytes ts s later is))

is_byte : (b k : ℕ) → b == k ≡ true → k ≡ b
is_byte b k h = grind (arith, nat_tests)

regroup : (rest xs ys : List ℕ) → (36 ∷ (rest ++ xs)) ++ ys ≡ 36 ∷ (rest ++ (xs ++ ys))
regroup rest xs ys = ap (λ x. 36 ∷ x) (append_assoc rest xs ys)

all_push : (p : ℕ → Bool) (xs : List ℕ) (b : ℕ) → list_all p xs ≡ true → p b ≡ true → list_all p (xs ++ b ∷ []) ≡ true
all_push p [] b h is = ap (λ c. c && true) is
all_push p (x ∷ xs) b h is = go (p x) h (λ rest. all_push p xs b rest is)
  where
    go : (c : Bool) → c && list_all p xs ≡ true → (list_all p xs ≡ true → list_all p (xs ++ b ∷ []) ≡ true) → c && list_all p (xs ++ b ∷ []) ≡ true
    go true all ih = ih all
    go false all ih = absurd cc

-- a byte after whole steps
step_begins : (b : ℕ) (ss : List Step) (rest : List ℕ) → AreSteps rest ss → ReachedIf (begin_step b (between ss)) (36 ∷ (rest ++ b ∷ []))
unfolding ReachedIf
step_begins b ss rest are = go (b == 46) refl (b == 91) refl
  where
    go : (c : Bool) → b == 46 ≡ c → (d : Bool) → b == 91 ≡ d → ReachedIf (if c then Some (after_dot ss) else if d then Some (after_bracket ss) else None) (36 ∷ (rest ++ b ∷ []))
    go true e d f = subst (λ x. Reached (after_dot ss) (36 ∷ (rest ++ x ∷ []))) (is_byte b 46 e) (at_dot ss rest are)
    go false e true f = subst (λ x. Reached (after_bracket ss) (36 ∷ (rest ++ x ∷ []))) (is_byte b 91 f) (at_bracket ss rest are)
    go false e false f = tt

start_next : (b : ℕ) → ReachedIf (next b start) (b ∷ [])
unfolding ReachedIf
start_next b = go (b == 36) refl
  where
    go : (c : Bool) → b == 36 ≡ c → ReachedIf (if c then Some (between []) else None) (b ∷ [])
    go true e = subst (λ x. Reached (between []) (x ∷ [])) (is_byte b 36 e) (at_between [] [] no_step)
    go false e = tt

dot_next : (b : ℕ) (ss : List Step) (rest : List ℕ) → AreSteps rest ss → ReachedIf (next b (after_dot ss)) ((36 ∷ (rest ++ 46 ∷ [])) ++ b ∷ [])
unfolding ReachedIf
dot_next b ss rest are = subst (λ x. ReachedIf (next b (after_dot ss)) x) (sym (regroup rest (46 ∷ []) (b ∷ []))) (go (is_name_byte b) refl)
  where
    go : (c : Bool) → is_name_byte b ≡ c → ReachedIf (if c then Some (in_name ss (b ∷ [])) else None) (36 ∷ (rest ++ 46 ∷ b ∷ []))
    go true e = at_name ss rest (b ∷ []) are (omega arith) (ap (λ c. c && true) e)
    go false e = tt

name_next : (b : ℕ) (ss : List Step) (rest name : List ℕ) → AreSteps rest ss → 0 < length name → list_all is_name_byte name ≡ true → ReachedIf (next b (in_name ss name)) ((36 ∷ (rest ++ 46 ∷ name)) ++ b ∷ [])
unfolding ReachedIf
name_next b ss rest name are some each = go (is_name_byte b) refl
  where
    go : (c : Bool) → is_name_byte b ≡ c → ReachedIf (if c then Some (in_name ss (name ++ b ∷ [])) else begin_step b (between (ss ++ Name name ∷ []))) (36 ∷ ((rest ++ 46 ∷ name) ++ b ∷ []))
    go true e = subst (λ x. Reached (in_name ss (name ++ b ∷ [])) x) (sym (regroup rest (46 ∷ name) (b ∷ [])))
        (at_name ss rest (name ++ b ∷ []) are (omega (arith, length-append name (b ∷ []))) (all_push is_name_byte name b each e))
    go false e = step_begins b (ss ++ Name name ∷ []) (rest ++ 46 ∷ name) (AreSteps-push rest (46 ∷ name) ss (Name name) are (inl (record { text = refl; some = some; each = each })))

bracket_next : (b : ℕ) (ss : List Step) (rest : List ℕ) → AreSteps rest ss → ReachedIf (next b (after_bracket ss)) ((36 ∷ (rest ++ 91 ∷ [])) ++ b ∷ [])
unfolding ReachedIf
bracket_next b ss rest are = subst (λ x. ReachedIf (next b (after_bracket ss)) x) (sym (regroup rest (91 ∷ []) (b ∷ []))) (go (b == 39) refl (b == 42) refl (is_ascii_digit b) refl)
  where
    go : (c : Bool) → b == 39 ≡ c → (d : Bool) → b == 42 ≡ d → (f : Bool) → is_ascii_digit b ≡ f →
        ReachedIf (if c then Some (in_quotes ss []) else if d then Some (after_star ss) else if f then Some (in_index ss (b ∷ [])) else None) (36 ∷ (rest ++ 91 ∷ b ∷ []))
    go true e d g f h = subst (λ x. Reached (in_quotes ss []) (36 ∷ (rest ++ 91 ∷ x ∷ []))) (is_byte b 39 e) (at_quotes ss rest [] are refl)
    go false e true g f h = subst (λ x. Reached (after_star ss) (36 ∷ (rest ++ 91 ∷ x ∷ []))) (is_byte b 42 g) (at_star ss rest are)
    go false e false g true h = at_index ss rest (b ∷ []) are (omega arith) (omega arith) (ap (λ c. c && true) h)
    go false e false g false h = tt

quotes_next : (b : ℕ) (ss : List Step) (rest name : List ℕ) → AreSteps rest ss → list_all is_quotable name ≡ true → ReachedIf (next b (in_quotes ss name)) ((36 ∷ (rest ++ 91 ∷ 39 ∷ name)) ++ b ∷ [])
unfolding ReachedIf
quotes_next b ss rest name are each = subst (λ x. ReachedIf (next b (in_quotes ss name)) x) (sym (regroup rest (91 ∷ 39 ∷ name) (b ∷ []))) (go (b == 39) refl)
  where
    go : (c : Bool) → b == 39 ≡ c → ReachedIf (if c then Some (after_quote ss name) else Some (in_quotes ss (name ++ b ∷ []))) (36 ∷ (rest ++ 91 ∷ 39 ∷ (name ++ b ∷ [])))
    go true e = subst (λ x. Reached (after_quote ss name) (36 ∷ (rest ++ 91 ∷ 39 ∷ (name ++ x ∷ [])))) (is_byte b 39 e) (at_quote ss rest name are each)
    go false e = at_quotes ss rest (name ++ b ∷ []) are (all_push is_quotable name b each (ap not e))

-- the bytes of a quoted name with its end
quoted_text : (rest name : List ℕ) → (36 ∷ (rest ++ 91 ∷ 39 ∷ (name ++ 39 ∷ []))) ++ 93 ∷ [] ≡ 36 ∷ (rest ++ 91 ∷ 39 ∷ (name ++ 39 ∷ 93 ∷ []))
quoted_text rest name = regroup rest (91 ∷ 39 ∷ (name ++ 39 ∷ [])) (93 ∷ []) ∙ ap (λ x. 36 ∷ (rest ++ 91 ∷ 39 ∷ x)) (append_assoc name (39 ∷ []) (93 ∷ []))

quoted_steps : (ss : List Step) (rest name : List ℕ) → AreSteps rest ss → list_all is_quotable name ≡ true → AreSteps (rest ++ 91 ∷ 39 ∷ (name ++ 39 ∷ 93 ∷ [])) (ss ++ Name name ∷ [])
quoted_steps ss rest name are each = AreSteps-push rest (91 ∷ 39 ∷ (name ++ 39 ∷ 93 ∷ [])) ss (Name name) are (inr (record { text = refl; each = each }))

indexed_steps : (ss : List Step) (rest ds : List ℕ) → AreSteps rest ss → 0 < length ds → length ds ≤ 9 → list_all is_ascii_digit ds ≡ true → AreSteps (rest ++ 91 ∷ (ds ++ 93 ∷ [])) (ss ++ Index (digits_value 10 ds) ∷ [])
indexed_steps ss rest ds are some few each =
    AreSteps-push rest (91 ∷ (ds ++ 93 ∷ [])) ss (Index (digits_value 10 ds)) are (record { digits = ds; text = refl; some = some; few = few; each = each; value = refl })

starred_steps : (ss : List Step) (rest : List ℕ) → AreSteps rest ss → AreSteps (rest ++ 91 ∷ 42 ∷ 93 ∷ []) (ss ++ All ∷ [])
starred_steps ss rest are = AreSteps-push rest (91 ∷ 42 ∷ 93 ∷ []) ss All are refl

quote_next : (b : ℕ) (ss : List Step) (rest name : List ℕ) → AreSteps rest ss → list_all is_quotable name ≡ true → ReachedIf (next b (after_quote ss name)) ((36 ∷ (rest ++ 91 ∷ 39 ∷ (name ++ 39 ∷ []))) ++ b ∷ [])
unfolding ReachedIf
quote_next b ss rest name are each = go (b == 93) refl
  where
    go : (c : Bool) → b == 93 ≡ c → ReachedIf (if c then Some (between (ss ++ Name name ∷ [])) else None) ((36 ∷ (rest ++ 91 ∷ 39 ∷ (name ++ 39 ∷ []))) ++ b ∷ [])
    go true e = subst (λ x. Reached (between (ss ++ Name name ∷ [])) ((36 ∷ (rest ++ 91 ∷ 39 ∷ (name ++ 39 ∷ []))) ++ x ∷ [])) (is_byte b 93 e)
        (subst (λ x. Reached (between (ss ++ Name name ∷ [])) x) (sym (quoted_text rest name)) (at_between (ss ++ Name name ∷ []) (rest ++ 91 ∷ 39 ∷ (name ++ 39 ∷ 93 ∷ [])) (quoted_steps ss rest name are each)))
    go false e = tt

lt_holds : (a b : ℕ) → nat_lt a b ≡ true → a < b
lt_holds a b h = grind (arith, nat_tests)

index_next : (b : ℕ) (ss : List Step) (rest ds : List ℕ) → AreSteps rest ss → 0 < length ds → length ds ≤ 9 → list_all is_ascii_digit ds ≡ true → ReachedIf (next b (in_index ss ds)) ((36 ∷ (rest ++ 91 ∷ ds)) ++ b ∷ [])
unfolding ReachedIf
index_next b ss rest ds are some few each =
    subst (λ x. ReachedIf (next b (in_index ss ds)) x) (sym (regroup rest (91 ∷ ds) (b ∷ []))) (go (b == 93) refl (is_ascii_digit b) refl (nat_lt (length ds) 9) refl)
  where
    go : (c : Bool) → b == 93 ≡ c → (d : Bool) → is_ascii_digit b ≡ d → (f : Bool) → nat_lt (length ds) 9 ≡ f →
        ReachedIf (if c then Some (with_index (in_index ss ds)) else if d && f then Some (in_index ss (ds ++ b ∷ [])) else None) (36 ∷ (rest ++ 91 ∷ (ds ++ b ∷ [])))
    go true e d g f h = subst (λ x. Reached (between (ss ++ Index (digits_value 10 ds) ∷ [])) (36 ∷ (rest ++ 91 ∷ (ds ++ x ∷ [])))) (is_byte b 93 e)
        (at_between (ss ++ Index (digits_value 10 ds) ∷ []) (rest ++ 91 ∷ (ds ++ 93 ∷ [])) (indexed_steps ss rest ds are some few each))
    go false e true g true h =
        let fewer = lt_holds (length ds) 9 h in
        let one : length (ds ++ b ∷ []) ≡ length ds + 1 = omega (arith, length-append ds (b ∷ [])) in
        at_index ss rest (ds ++ b ∷ []) are (omega arith) (omega arith) (all_push is_ascii_digit ds b each g)
    go false e true g false h = tt
    go false e false g f h = tt

star_next : (b : ℕ) (ss : List Step) (rest : List ℕ) → AreSteps rest ss → ReachedIf (next b (after_star ss)) ((36 ∷ (rest ++ 91 ∷ 42 ∷ [])) ++ b ∷ [])
unfolding ReachedIf
star_next b ss rest are = subst (λ x. ReachedIf (next b (after_star ss)) x) (sym (regroup rest (91 ∷ 42 ∷ []) (b ∷ []))) (go (b == 93) refl)
  where
    go : (c : Bool) → b == 93 ≡ c → ReachedIf (if c then Some (between (ss ++ All ∷ [])) else None) (36 ∷ (rest ++ 91 ∷ 42 ∷ b ∷ []))
    go true e = subst (λ x. Reached (between (ss ++ All ∷ [])) (36 ∷ (rest ++ 91 ∷ 42 ∷ x ∷ []))) (is_byte b 93 e) (at_between (ss ++ All ∷ []) (rest ++ 91 ∷ 42 ∷ 93 ∷ []) (starred_steps ss rest are))
    go false e = tt

-- a byte that can stand leads on
next_reached : (b : ℕ) (s : State) (ps : List ℕ) → Reached s ps → ReachedIf (next b s) (ps ++ b ∷ [])
next_reached b _ _ at_start = start_next b
next_reached b _ _ (at_between ss rest are) = step_begins b ss rest are
next_reached b _ _ (at_dot ss rest are) = dot_next b ss rest are
next_reached b _ _ (at_name ss rest name are some each) = name_next b ss rest name are some each
next_reached b _ _ (at_bracket ss rest are) = bracket_next b ss rest are
next_reached b _ _ (at_quotes ss rest name are each) = quotes_next b ss rest name are each
next_reached b _ _ (at_quote ss rest name are each) = quote_next b ss rest name are each
next_reached b _ _ (at_index ss rest ds are some few each) = index_next b ss rest ds are some few each
next_reached b _ _ (at_star ss rest are) = star_next b ss rest are

-- a path, whose steps stand after `$`
path_by : (ps more bytes : List ℕ) (ss : List Step) → ps ++ more ≡ 36 ∷ bytes → AreSteps bytes ss → BeginsPath ps
path_by ps more bytes ss is are = (more, ss, (bytes, is, are))

-- at each state some path can still come
viable : (s : State) (ps : List ℕ) → Reached s ps → BeginsPath ps
viable _ _ at_start = path_by [] (36 ∷ []) [] [] refl no_step
viable _ _ (at_between ss rest are) = path_by (36 ∷ rest) [] rest ss (append-nil (36 ∷ rest)) are
viable _ _ (at_dot ss rest are) =
    path_by (36 ∷ (rest ++ 46 ∷ [])) (97 ∷ []) (rest ++ 46 ∷ 97 ∷ []) (ss ++ Name (97 ∷ []) ∷ []) (regroup rest (46 ∷ []) (97 ∷ []))
    (AreSteps-push rest (46 ∷ 97 ∷ []) ss (Name (97 ∷ [])) are (inl (record { text = refl; some = omega arith; each = refl })))
viable _ _ (at_name ss rest name are some each) =
    path_by (36 ∷ (rest ++ 46 ∷ name)) [] (rest ++ 46 ∷ name) (ss ++ Name name ∷ []) (append-nil (36 ∷ (rest ++ 46 ∷ name)))
    (AreSteps-push rest (46 ∷ name) ss (Name name) are (inl (record { text = refl; some = some; each = each })))
viable _ _ (at_bracket ss rest are) =
    path_by (36 ∷ (rest ++ 91 ∷ [])) (42 ∷ 93 ∷ []) (rest ++ 91 ∷ 42 ∷ 93 ∷ []) (ss ++ All ∷ []) (regroup rest (91 ∷ []) (42 ∷ 93 ∷ [])) (starred_steps ss rest are)
viable _ _ (at_quotes ss rest name are each) =
    path_by (36 ∷ (rest ++ 91 ∷ 39 ∷ name)) (39 ∷ 93 ∷ []) (rest ++ 91 ∷ 39 ∷ (name ++ 39 ∷ 93 ∷ [])) (ss ++ Name name ∷ []) (regroup rest (91 ∷ 39 ∷ name) (39 ∷ 93 ∷ [])) (quoted_steps ss rest name are each)
viable _ _ (at_quote ss rest name are each) =
    path_by (36 ∷ (rest ++ 91 ∷ 39 ∷ (name ++ 39 ∷ []))) (93 ∷ []) (rest ++ 91 ∷ 39 ∷ (name ++ 39 ∷ 93 ∷ [])) (ss ++ Name name ∷ []) (quoted_text rest name) (quoted_steps ss rest name are each)
viable _ _ (at_index ss rest ds are some few each) =
    path_by (36 ∷ (rest ++ 91 ∷ ds)) (93 ∷ []) (rest ++ 91 ∷ (ds ++ 93 ∷ [])) (ss ++ Index (digits_value 10 ds) ∷ []) (regroup rest (91 ∷ ds) (93 ∷ [])) (indexed_steps ss rest ds are some few each)
viable _ _ (at_star ss rest are) =
    path_by (36 ∷ (rest ++ 91 ∷ 42 ∷ [])) (93 ∷ []) (rest ++ 91 ∷ 42 ∷ 93 ∷ []) (ss ++ All ∷ []) (regroup rest (91 ∷ 42 ∷ []) (93 ∷ [])) (starred_steps ss rest are)

-- the first of these bytes that can't stand
record Sticks (begin : State) (before bytes : List ℕ) (from at : ℕ) : Type 0 where
  prefix : List ℕ
  byte : ℕ
  behind : List ℕ
  state : State
  all : bytes ≡ prefix ++ byte ∷ behind
  place : at ≡ from + length prefix
  ran : run from prefix begin ≡ Ok state
  reached : Reached state (before ++ prefix)
  stuck : next byte state ≡ None

Leads : State → List ℕ → List ℕ → ℕ → Result State ℕ → Type 0
Leads begin before bytes from r = MatchResult r (λ s. Reached s (before ++ bytes)) (Sticks begin before bytes from)

-- one byte further
leads_on : (b : ℕ) (bytes before : List ℕ) (from : ℕ) (s s' : State) (r : Result State ℕ) → next b s ≡ Some s' → Leads s' (before ++ b ∷ []) bytes (from + 1) r → Leads s before (b ∷ bytes) from r
unfolding Leads
leads_on b bytes before from s s' (Ok u) e h = subst (λ x. Reached u x) (append_assoc before (b ∷ []) bytes) h
leads_on b bytes before from s s' (Err at) e h = record {
  prefix = b ∷ h.prefix;
  byte = h.byte;
  behind = h.behind;
  state = h.state;
  all = ap (λ x. b ∷ x) h.all;
  place = h.place ∙ further (length h.prefix);
  ran = run-next from b h.prefix s s' e ∙ h.ran;
  reached = subst (λ x. Reached h.state x) (append_assoc before (b ∷ []) h.prefix) h.reached;
  stuck = h.stuck;
}
  where
    further : (n : ℕ) → (from + 1) + n ≡ from + suc n
    further n = omega arith

leads : (bytes before : List ℕ) (from : ℕ) (s : State) → Reached s before → Leads s before bytes from (run from bytes s)
unfolding Leads run ReachedIf
leads [] before from s reached = subst (λ x. Reached s x) (sym (append-nil before)) reached
leads (b ∷ bytes) before from s reached = go (next b s) refl (next_reached b s before reached) (λ s' r. leads bytes (before ++ b ∷ []) (from + 1) s' r)
  where
    none : from ≡ from + 0
    none = omega arith

    go : (o : Option State) → next b s ≡ o → ReachedIf o (before ++ b ∷ []) →
        ((s' : State) → Reached s' (before ++ b ∷ []) → Leads s' (before ++ b ∷ []) bytes (from + 1) (run (from + 1) bytes s')) →
        Leads s before (b ∷ bytes) from (state_or_fault from o (run (from + 1) bytes))
    go None e r ih = record {
      prefix = [];
      byte = b;
      behind = bytes;
      state = s;
      all = refl;
      place = none;
      ran = run-none from s;
      reached = subst (λ x. Reached s x) (sym (append-nil before)) reached;
      stuck = e;
    }
    go (Some s') e r ih = leads_on b bytes before from s s' (run (from + 1) bytes s') e (ih s' r)

abbrev IsAnswer : List ℕ → Result (List Step) ℕ → Type 0
IsAnswer text r = MatchResult r (IsPathOf text) (IsFaultOf text)

unread : (at : ℕ) (ss : List Step) → ◌≡◌ {A = Result (List Step) ℕ} (Err at) (Ok ss) → ⊥
unread at ss e = cc

not_whole : (text : List ℕ) (s : State) → run 0 text start ≡ Ok s → finish (length text) s ≡ Err (length text) → Reached s text → IsFaultOf text (length text)
not_whole text s ran stops reached = record {
  before = text;
  after = [];
  all = sym (append-nil text);
  place = refl;
  stands = viable s text reached;
  stops = λ ss is. unread (length text) ss (sym (ap (λ o. or_else_fault o (finish (length text))) ran ∙ stops) ∙ whole_path (length text) text ss is);
}

path_at_end : (text rest : List ℕ) (ss : List Step) → text ≡ 36 ∷ rest → AreSteps rest ss → IsPathOf text ss
path_at_end text rest ss is are = (rest, is, are)

-- the answer where all bytes can stand
answer_end : (s : State) (ps : List ℕ) → Reached s ps → (text : List ℕ) → text ≡ ps → run 0 text start ≡ Ok s → IsAnswer text (finish (length text) s)
answer_end _ _ at_start text is ran = not_whole text start ran refl (subst (Reached start) (sym is) at_start)
answer_end _ _ (at_between ss rest are) text is ran = path_at_end text rest ss is are
answer_end _ _ (at_dot ss rest are) text is ran = not_whole text (after_dot ss) ran refl (subst (Reached (after_dot ss)) (sym is) (at_dot ss rest are))
answer_end _ _ (at_name ss rest name are some each) text is ran =
    path_at_end text (rest ++ 46 ∷ name) (ss ++ Name name ∷ []) is (AreSteps-push rest (46 ∷ name) ss (Name name) are (inl (record { text = refl; some = some; each = each })))
answer_end _ _ (at_bracket ss rest are) text is ran = not_whole text (after_bracket ss) ran refl (subst (Reached (after_bracket ss)) (sym is) (at_bracket ss rest are))
answer_end _ _ (at_quotes ss rest name are each) text is ran = not_whole text (in_quotes ss name) ran refl (subst (Reached (in_quotes ss name)) (sym is) (at_quotes ss rest name are each))
answer_end _ _ (at_quote ss rest name are each) text is ran = not_whole text (after_quote ss name) ran refl (subst (Reached (after_quote ss name)) (sym is) (at_quote ss rest name are each))
answer_end _ _ (at_index ss rest ds are some few each) text is ran = not_whole text (in_index ss ds) ran refl (subst (Reached (in_index ss ds)) (sym is) (at_index ss rest ds are some few each))
answer_end _ _ (at_star ss rest are) text is ran = not_whole text (after_star ss) ran refl (subst (Reached (after_star ss)) (sym is) (at_star ss rest are))

stuck_fault : (text : List ℕ) (at : ℕ) → Sticks start [] text 0 at → IsFaultOf text at
stuck_fault text at h = record {
  before = h.prefix;
  after = h.byte ∷ h.behind;
  all = h.all;
  place = h.place ∙ zero-plus (length h.prefix);
  stands = viable h.state h.prefix h.reached;
  stops = λ w. unread (0 + length h.prefix) w.1 (sym (stays w.0) ∙ whole_path 0 ((h.prefix ++ h.byte ∷ []) ++ w.0) w.1 w.2);
}
  where
    zero-plus : (n : ℕ) → 0 + n ≡ n
    zero-plus n = omega arith

    stays : (more : List ℕ) → or_else_fault (run 0 ((h.prefix ++ h.byte ∷ []) ++ more) start) (finish 0) ≡ Err (0 + length h.prefix)
    stays more = ap (λ o. or_else_fault o (finish 0))
        (ap (λ x. run 0 x start) (append_assoc h.prefix (h.byte ∷ []) more) ∙ run-then 0 h.prefix (h.byte ∷ more) start h.state h.ran ∙ run-stuck (0 + length h.prefix) h.byte more h.state h.stuck)

-- What the machine answers is the list of steps that the text spells, or its fault.
pub path_is_right : (text : List ℕ) → MatchResult (path_of text) (IsPathOf text) (IsFaultOf text)
unfolding Leads
path_is_right text = go (run 0 text start) refl (leads text [] 0 start at_start)
  where
    go : (o : Result State ℕ) → run 0 text start ≡ o → Leads start [] text 0 o → IsAnswer text (or_else_fault o (finish (length text)))
    go (Ok s) e h = answer_end s text h text refl e
    go (Err at) e h = stuck_fault text at h

pub one_path : (text : List ℕ) (ss : List Step) → IsPathOf text ss → path_of text ≡ Ok ss
one_path text ss is = whole_path (length text) text ss is
