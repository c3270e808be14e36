-- One piece after another, and one argument after another.
use Rattle.std.proofs.Common.{◌≡◌, ℕ, zero, suc, ◌+◌, ◌≤◌, ◌<◌, List, [], ◌∷◌, ◌++◌, length, drop, get_or, slice_index_or, Option, Some, None, refl, sym, ap, ◌∙◌, subst, arith}
use Rattle.std.specs.Fmt.{decimal}
use Rattle.std.specs.Option.{option_map}
use Rattle.std.specs.Prelude.{Result, Ok, Err, IfOk, IfSome, OnErr, is_some, true, false, unwrap_or, option_and_then}
use Rattle.std.proofs.lemmas.List.{drop_more}
use Rattle.jm_base.specs.Run.{Run, over, ◌>>=◌, reading}
use Rattle.jm_base.specs.Outside.{Account, Goes, TellsNothing}
use Rattle.jm_base.proofs.RunLaws.{goes-append, goes-bind, goes-nothing, goes-tells_nothing}
use Rattle.template_text.specs.declared.template.Piece.{Piece}
use Rattle.template_text.specs.declared.template.Piece.TheVariants.{Text, Var, Call}
use Rattle.template_text.specs.Pieces.{Pieces, no_more, Arguments, variable, call, reference_spelling}
use Rattle.template_text.specs.View.{pieces_of, arguments_of, weight}
use Rattle.thread_vars.specs.declared.error.VarError.{VarError}
use Rattle.thread_vars.specs.declared.error.VarError.TheVariants.{ValueLimit, NoMemory}
use Rattle.var_functions.specs.declared.function.Function.{Function}
use Rattle.thread_vars.specs.Vars.{Variables, value_of}
use Rattle.var_functions.specs.FunctionState.{Functions}
use Rattle.var_functions.specs.Functions.{value, Answer, function_named}
use Rattle.var_functions.specs.Came.{CameTo, LeftOf, Refused, by_limit, by_memory}
use Rattle.var_functions.specs.Expansion.{Expanded, expanded, on_expanded, and_then, limited, appended, count, taking, function_of_name, named, referred, called, value_or_spelling, after_pieces, after_texts, after_piece, Grows}
use Rattle.var_functions.proofs.CameLaws.{refused-bind, came-bind, came-first}

-- a text that grew, or did not
pub grows-came : (a : Account) (wanted new : List ℕ) (fns : Functions) (res : Result (Unit {0}) VarError) → Grows wanted new res
    → CameTo a (over (expanded (limited wanted) fns)) a (λ _. over (expanded (Some new) fns)) (over (expanded None fns)) res
grows-came a wanted new fns (Ok u) h = subst (λ o. Goes a (over (expanded o fns)) [] (over (expanded (Some new) fns)) a) (sym h) (goes-nothing a _)
grows-came a wanted new fns (Err ValueLimit) h = by_limit (subst (λ o. Goes a (over (expanded o fns)) [] (over (expanded None fns)) a) (sym h) (goes-nothing a _))
grows-came a wanted new fns (Err NoMemory) h = by_memory (_, goes-nothing a _)

piece_then : (p : Piece) (ps : List Piece) (vars : Variables) (prefix : List ℕ) (fns : Functions)
    → after_pieces (pieces_of (p ∷ ps)) vars prefix fns ≡ and_then (after_piece p vars prefix fns) (after_pieces (pieces_of ps) vars)
unfolding after_pieces
piece_then (Text t) ps vars prefix fns = refl
piece_then (Var name) ps vars prefix fns = refl
piece_then (Call name args) ps vars prefix fns = refl

-- one piece more
pub one_piece : (a m b : Account) (run : Run (Expanded (List ℕ))) (prefix new : List ℕ) (vars : Variables) (pieces : List Piece) (fns fns' : Functions) (i : ℕ) (p : Piece) (res : Result (Unit {0}) VarError)
    → i < length pieces → p ≡ get_or pieces i p
    → Goes a run [] (after_pieces (pieces_of (drop i pieces)) vars prefix fns) m
    → CameTo m (after_piece p vars prefix fns) b (λ _. over (expanded (Some new) fns')) (over (expanded None fns')) res
    → CameTo a run b (λ _. after_pieces (pieces_of (drop (i + 1) pieces)) vars new fns') (over (expanded None fns')) res
one_piece a m b run prefix new vars pieces fns fns' i p res there is so_far came =
    let rest : drop i pieces ≡ p ∷ drop (i + 1) pieces = drop_more pieces i p there ∙ ap (λ q. q ∷ drop (i + 1) pieces) (sym is) in
    let next = after_pieces (pieces_of (drop (i + 1) pieces)) vars in
    let begun : Goes a run [] (and_then (after_piece p vars prefix fns) next) m =
    subst (λ r. Goes a run [] r m) (ap (λ l. after_pieces (pieces_of l) vars prefix fns) rest ∙ piece_then p (drop (i + 1) pieces) vars prefix fns) so_far in
    came-first a m b run (and_then (after_piece p vars prefix fns) next) (λ _. next new fns') (over (expanded None fns')) res begun
    (came-bind m b (after_piece p vars prefix fns) (λ _. over (expanded (Some new) fns')) (over (expanded None fns')) res (on_expanded next) came)

pub no_piece : (a b : Account) (run : Run (Expanded (List ℕ))) (prefix : List ℕ) (vars : Variables) (rest : List Piece) (fns : Functions) → rest ≡ []
    → Goes a run [] (after_pieces (pieces_of rest) vars prefix fns) b → Goes a run [] (over (expanded (Some prefix) fns)) b
unfolding after_pieces
no_piece a b run prefix vars rest fns is g = rw is at g

argument_then : (ps : Pieces) (args : List Pieces) (vars : Variables) (before : List (List ℕ)) (fns : Functions)
    → after_texts (arguments_of (ps ∷ args)) vars before fns ≡ and_then (after_pieces ps vars [] fns) (λ t. after_texts (arguments_of args) vars (before ++ t ∷ []))
unfolding after_texts
argument_then ps args vars before fns = refl

-- one argument more
pub one_argument : (a m b : Account) (run : Run (Expanded (List (List ℕ)))) (before : List (List ℕ)) (vars : Variables) (args : List Pieces) (fns fns' : Functions) (i : ℕ) (ps : Pieces) (res : Result (List ℕ) VarError)
    → i < length args → ps ≡ get_or args i ps
    → Goes a run [] (after_texts (arguments_of (drop i args)) vars before fns) m
    → CameTo m (after_pieces ps vars [] fns) b (λ t. over (expanded (Some t) fns')) (over (expanded None fns')) res
    → CameTo a run b (λ t. after_texts (arguments_of (drop (i + 1) args)) vars (before ++ t ∷ []) fns') (over (expanded None fns')) res
one_argument a m b run before vars args fns fns' i ps res there is so_far came =
    let rest : drop i args ≡ ps ∷ drop (i + 1) args = drop_more args i ps there ∙ ap (λ q. q ∷ drop (i + 1) args) (sym is) in
    let next = λ (t : List ℕ). after_texts (arguments_of (drop (i + 1) args)) vars (before ++ t ∷ []) in
    let begun : Goes a run [] (and_then (after_pieces ps vars [] fns) next) m =
    subst (λ r. Goes a run [] r m) (ap (λ l. after_texts (arguments_of l) vars before fns) rest ∙ argument_then ps (drop (i + 1) args) vars before fns) so_far in
    came-first a m b run (and_then (after_pieces ps vars [] fns) next) (λ t. next t fns') (over (expanded None fns')) res begun
    (came-bind m b (after_pieces ps vars [] fns) (λ t. over (expanded (Some t) fns')) (over (expanded None fns')) res (on_expanded next) came)

pub no_argument : (a b : Account) (run : Run (Expanded (List (List ℕ)))) (before : List (List ℕ)) (vars : Variables) (rest : List Pieces) (fns : Functions) → rest ≡ []
    → Goes a run [] (after_texts (arguments_of rest) vars before fns) b → Goes a run [] (over (expanded (Some before) fns)) b
unfolding after_texts
no_argument a b run before vars rest fns is g = rw is at g

count-arguments_of : (args : List Pieces) → count (arguments_of args) ≡ length args
count-arguments_of [] = refl
count-arguments_of (ps ∷ args) = ap suc (count-arguments_of args)

-- the function that a call of this name takes for that many arguments
pub names_function : (name bytes : List ℕ) (args : List Pieces) (found which : Option Function) → bytes ≡ name → found ≡ function_named bytes → which ≡ option_and_then (taking (length args)) found
    → option_and_then (taking (count (arguments_of args))) (function_named name) ≡ which
names_function name bytes args found which same is took =
    ap (λ n. option_and_then (taking n) (function_named name)) (count-arguments_of args) ∙ ap (λ n. option_and_then (taking (length args)) (function_named n)) (sym same)
    ∙ ap (option_and_then (taking (length args))) (sym is) ∙ sym took

pub referred_call : (name : List ℕ) (args : Arguments) (vars : Variables) (fns : Functions)
    → referred (call name args) vars fns ≡ called (option_and_then (taking (count args)) (function_named name)) (after_texts args vars []) (reference_spelling (call name args)) vars fns
unfolding referred
referred_call name args vars fns = refl

-- the arguments of a call without any
abbrev pub no_texts : Functions → Run (Expanded (List (List ℕ)))
no_texts fns = over (expanded (Some []) fns)

named_call : (which : Option Function) (name : List ℕ) (vars : Variables) (fns : Functions) → is_some which ≡ true
    → named which name vars fns ≡ called (option_and_then (taking 0) which) no_texts (reference_spelling (variable name)) vars fns
named_call None name vars fns h = cc
named_call (Some f) name vars fns h = refl

pub referred_function : (name : List ℕ) (vars : Variables) (fns : Functions) → is_some (function_of_name name) ≡ true
    → referred (variable name) vars fns ≡ called (option_and_then (taking 0) (function_of_name name)) no_texts (reference_spelling (variable name)) vars fns
unfolding referred
referred_function name vars fns h = named_call (function_of_name name) name vars fns h

pub referred_variable : (name : List ℕ) (vars : Variables) (fns : Functions) → is_some (function_of_name name) ≡ false
    → referred (variable name) vars fns ≡ over (expanded (Some (unwrap_or (value_of name vars) (reference_spelling (variable name)))) fns)
unfolding referred
referred_variable name vars fns h = without (function_of_name name) h where
  without : (which : Option Function) → is_some which ≡ false → named which name vars fns ≡ over (expanded (Some (unwrap_or (value_of name vars) (reference_spelling (variable name)))) fns)
  without None h = refl
  without (Some f) h = cc

-- a text that is known, after the text before it
pub text_came : (a : Account) (r : Run (Expanded (List ℕ))) (t prefix new : List ℕ) (fns : Functions) (res : Result (Unit {0}) VarError) → r ≡ over (expanded (Some t) fns) → Grows (prefix ++ t) new res
    → CameTo a (and_then r (appended prefix)) a (λ _. over (expanded (Some new) fns)) (over (expanded None fns)) res
text_came a r t prefix new fns res is h =
    subst (λ q. CameTo a (and_then q (appended prefix)) a (λ _. over (expanded (Some new) fns)) (over (expanded None fns)) res) (sym is) (grows-came a (prefix ++ t) new fns res h)

module _ (r : Run (Expanded (List ℕ))) (args : Functions → Run (Expanded (List (List ℕ)))) (spelling prefix : List ℕ) (vars : Variables) (fns : Functions) (which : Option Function)
    (is : r ≡ called which args spelling vars fns) where
  -- a call of no function is its spelling
  pub called_none : (a : Account) (new : List ℕ) (res : Result (Unit {0}) VarError) → which ≡ None → Grows (prefix ++ spelling) new res
      → CameTo a (and_then r (appended prefix)) a (λ _. over (expanded (Some new) fns)) (over (expanded None fns)) res
  called_none a new res none h = text_came a r spelling prefix new fns res (is ∙ ap (λ w. called w args spelling vars fns) none) h

  -- the arguments were refused
  pub called_refused : (a b : Account) (f : Function) (fns' : Functions) (e : VarError) → which ≡ Some f
      → Refused a (args fns) b (over (expanded None fns')) e → Refused a (and_then r (appended prefix)) b (over (expanded None fns')) e
  called_refused a b f fns' e some h =
      subst (λ q. Refused a (and_then q (appended prefix)) b (over (expanded None fns')) e) (sym (is ∙ ap (λ w. called w args spelling vars fns) some))
      (refused-bind (on_expanded (appended prefix)) (refused-bind (on_expanded (λ texts fns. value f texts vars fns >>= value_or_spelling spelling)) h))

  module _ (a m : Account) (f : Function) (texts : List (List ℕ)) (fns' : Functions) (some : which ≡ Some f) (g : Goes a (args fns) [] (over (expanded (Some texts) fns')) m) where
    begun : Goes a (and_then r (appended prefix)) [] (and_then (value f texts vars fns' >>= value_or_spelling spelling) (appended prefix)) m
    begun = subst (λ q. Goes a (and_then q (appended prefix)) [] (and_then (value f texts vars fns' >>= value_or_spelling spelling) (appended prefix)) m) (sym (is ∙ ap (λ w. called w args spelling vars fns) some))
        (goes-bind (on_expanded (appended prefix)) (goes-bind (on_expanded (λ texts fns. value f texts vars fns >>= value_or_spelling spelling)) g))

    -- the value came, and stands after the text before it, or the spelling does
    pub called_value : (b : Account) (v : Option (List ℕ)) (fns'' : Functions) (new : List ℕ) (res : Result (Unit {0}) VarError)
        → Goes m (value f texts vars fns') [] (over (v, fns'')) b → Grows (prefix ++ unwrap_or v spelling) new res
        → CameTo a (and_then r (appended prefix)) b (λ _. over (expanded (Some new) fns'')) (over (expanded None fns'')) res
    called_value b v fns'' new res h grows =
        came-first a b b (and_then r (appended prefix)) (over (expanded (limited (prefix ++ unwrap_or v spelling)) fns'')) (λ _. over (expanded (Some new) fns'')) (over (expanded None fns'')) res
        (goes-append begun (goes-bind (on_expanded (appended prefix)) (goes-bind (value_or_spelling spelling) h))) (grows-came b (prefix ++ unwrap_or v spelling) new fns'' res grows)

    -- out of memory on the way to the value
    pub called_cut : (b : Account) (limit : Run (Expanded (List ℕ))) → LeftOf m (value f texts vars fns') b → Refused a (and_then r (appended prefix)) b limit NoMemory
    called_cut b limit left =
        by_memory (_, goes-append begun (goes-bind (on_expanded (appended prefix)) (goes-bind (value_or_spelling spelling) left.1)))

-- a value that asks nothing of the outside
pub known : {E V : Type 0} (text_of : V → Option (List ℕ)) (a : Account) (run : Run Answer) (fns : Functions) (res : Result V E) → IfOk res (λ v. run ≡ over (text_of v, fns))
    → IfOk res (λ v. Goes a run [] (over (text_of v, fns)) a)
known text_of a run fns (Ok v) h = rw h (goes-nothing a _)
known text_of a run fns (Err e) h = tt

pub here_left : {A E T : Type 0} (a : Account) (run : Run A) (res : Result T E) → OnErr res (LeftOf a run a)
here_left a run (Ok x) = tt
here_left a run (Err e) = (run, goes-nothing a run)

pub nothing_told : {A E T : Type 0} (a b : Account) (run : Run A) (res : Result T E) → TellsNothing a b → OnErr res (LeftOf a run b)
nothing_told a b run (Ok x) h = tt
nothing_told a b run (Err e) h = (run, goes-tells_nothing (goes-nothing a run) h)

-- a reading of the clock
pub read_value : (a b : Account) (run : Run Answer) (now : ℕ) (fns : Functions) → run ≡ (reading >>= λ t. over (Some (decimal t), fns)) → Goes a reading [] (over now) b
    → Goes a run [] (over (Some (decimal now), fns)) b
read_value a b run now fns is g = rw is (goes-bind (λ t. over (Some (decimal t), fns)) g)

pub weight-positive : (ps : List Piece) → 1 ≤ weight (pieces_of ps)
weight-positive [] = omega arith
weight-positive (Text t ∷ ps) = omega (arith, weight-positive ps)
weight-positive (Var n ∷ ps) = omega (arith, weight-positive ps)
weight-positive (Call n args ∷ ps) = omega (arith, weight-positive ps)

-- a piece weighs no more than all of them
pub piece_weight : (ps : List Piece) (i : ℕ) (p : Piece) → i < length ps → get_or ps i p ≡ p → weight (pieces_of (p ∷ [])) ≤ weight (pieces_of ps)
piece_weight [] i p h e = absurd (omega arith)
piece_weight (q ∷ ps) zero p h e = subst (λ r. weight (pieces_of (r ∷ [])) ≤ weight (pieces_of (q ∷ ps))) e (first q) where
  first : (q : Piece) → weight (pieces_of (q ∷ [])) ≤ weight (pieces_of (q ∷ ps))
  first (Text t) = omega (arith, weight-positive ps)
  first (Var n) = omega (arith, weight-positive ps)
  first (Call n args) = omega (arith, weight-positive ps)
piece_weight (q ∷ ps) (suc i) p h e = omega (arith, piece_weight ps i p (omega arith) e, more q) where
  more : (q : Piece) → weight (pieces_of ps) ≤ weight (pieces_of (q ∷ ps))
  more (Text t) = omega arith
  more (Var n) = omega arith
  more (Call n args) = omega arith

-- a list of one piece
pub one_of : (ps : List Piece) (p : Piece) → 1 ≤ length ps → length ps < 2 → p ≡ slice_index_or ps 0 p → ps ≡ p ∷ []
one_of [] p some few is = absurd (omega (arith, some))
one_of (q ∷ []) p some few is = ap (λ r. r ∷ []) (sym is)
one_of (q ∷ r ∷ ps) p some few is = absurd (omega (arith, few))

-- nothing comes after the last piece
last : (o : Option (List ℕ)) (vars : Variables) (fns : Functions) → on_expanded (after_pieces no_more vars) (expanded o fns) ≡ over (expanded o fns)
unfolding after_pieces
last None vars fns = refl
last (Some t) vars fns = refl

pub one_text : (t : List ℕ) (vars : Variables) (fns : Functions) → after_pieces (pieces_of (Text t ∷ [])) vars [] fns ≡ over (expanded (limited t) fns)
unfolding after_pieces
one_text t vars fns = last (limited t) vars fns

pub one_variable : (name t : List ℕ) (vars : Variables) (fns : Functions) → is_some (function_of_name name) ≡ false → value_of name vars ≡ Some t
    → after_pieces (pieces_of (Var name ∷ [])) vars [] fns ≡ over (expanded (limited t) fns)
unfolding after_pieces
one_variable name t vars fns none is =
    ap (λ r. and_then (and_then r (appended [])) (after_pieces no_more vars)) (referred_variable name vars fns none ∙ ap (λ o. over (expanded (Some (unwrap_or o (reference_spelling (variable name)))) fns)) is)
    ∙ last (limited t) vars fns

-- what is lent is what a run comes to
pub lent : {B : Type 0} (text_of : B → List ℕ) (run : Functions → Run (Expanded (List ℕ))) (t : List ℕ) (res : Option B) → option_map text_of res ≡ limited t
    → ((fns : Functions) → run fns ≡ over (expanded (limited t) fns)) → IfSome res (λ b. (fns : Functions) → run fns ≡ over (expanded (Some (text_of b)) fns))
lent text_of run t None h is = tt
lent text_of run t (Some b) h is = λ fns. is fns ∙ ap (λ o. over (expanded o fns)) (sym h)
