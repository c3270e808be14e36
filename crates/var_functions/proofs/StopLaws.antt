-- Where an evaluation lacked memory, as part of a longer one.
use Rattle.std.proofs.Common.{◌≡◌, ℕ, ◌+◌, ◌<◌, List, [], ◌∷◌, length, drop, get_or, Some, refl, sym, ap, ◌∙◌, subst, inl, inr}
use Rattle.std.specs.Prelude.{◌⊎◌, Result, Ok, Err, IsSomeAnd, option_and_then}
use Rattle.std.proofs.lemmas.List.{drop_more}
use Rattle.jm_base.specs.Run.{over}
use Rattle.jm_base.specs.Outside.{Goes}
use Rattle.jm_base.proofs.RunLaws.{goes-nothing}
use Rattle.template_text.specs.declared.template.Piece.{Piece}
use Rattle.template_text.specs.declared.template.Piece.TheVariants.{Text, Var, Call}
use Rattle.template_text.specs.Pieces.{Pieces, no_more, text, reference, Reference, variable, call, Arguments, no_arguments, argument}
use Rattle.template_text.specs.View.{pieces_of, arguments_of}
use Rattle.thread_vars.specs.declared.error.VarError.{VarError}
use Rattle.thread_vars.specs.declared.error.VarError.TheVariants.{ValueLimit, NoMemory}
use Rattle.var_functions.specs.declared.function.Function.{Function}
use Rattle.thread_vars.specs.Vars.{Variables}
use Rattle.var_functions.specs.Functions.{function_named}
use Rattle.var_functions.specs.Expansion.{expanded, count, taking, function_of_name, after_piece, after_pieces, after_texts}
use Rattle.var_functions.specs.Stops.{Moment, AtNoMemory, OutOfMemory, Passes, StopsInValue, StopsIn, StopsInReference, StopsInTexts, StopsInPiece}

-- what holds, holds where memory ran out
pub out_of_memory : {A P : Type 0} (res : Result A VarError) → P → OutOfMemory res P
out_of_memory (Ok x) p = tt
out_of_memory (Err ValueLimit) p = tt
out_of_memory (Err NoMemory) p = p

pub lifted : {P Q : Type 0} (e : VarError) → (P → Q) → AtNoMemory e P → AtNoMemory e Q
lifted ValueLimit f p = tt
lifted NoMemory f p = f p

reference_before : (r : Reference) (vars : Variables) (from : Moment) → StopsInReference r vars from from
unfolding StopsInReference
reference_before (variable name) vars from = inl refl
reference_before (call name args) vars from = inl refl

-- before all pieces
pub stops_before : (ps : Pieces) (vars : Variables) (prefix : List ℕ) (from : Moment) → StopsIn ps vars prefix from from
unfolding StopsIn
stops_before no_more vars prefix from = refl
stops_before (text t more) vars prefix from = inl refl
stops_before (reference r more) vars prefix from = inl (reference_before r vars from)

in_first : (p : Piece) (ps : List Piece) (vars : Variables) (prefix : List ℕ) (from to : Moment) → StopsInPiece p vars from to
    → StopsIn (pieces_of (p ∷ ps)) vars prefix from to
unfolding StopsIn
in_first (Text t) ps vars prefix from to h = inl h
in_first (Var name) ps vars prefix from to h = inl h
in_first (Call name args) ps vars prefix from to h = inl h

past_first : (p : Piece) (ps : List Piece) (vars : Variables) (prefix new : List ℕ) (from at to : Moment)
    → Goes from.outside (after_piece p vars prefix from.fns) [] (over (expanded (Some new) at.fns)) at.outside
    → StopsIn (pieces_of ps) vars new at to → StopsIn (pieces_of (p ∷ ps)) vars prefix from to
unfolding StopsIn
past_first (Text t) ps vars prefix new from at to g h = inr (new, at, g, h)
past_first (Var name) ps vars prefix new from at to g h = inr (new, at, g, h)
past_first (Call name args) ps vars prefix new from at to g h = inr (new, at, g, h)

module _ (vars : Variables) (prefix : List ℕ) (pieces : List Piece) (i : ℕ) (p : Piece) (there : i < length pieces) (is : p ≡ get_or pieces i p) where
  rest : drop i pieces ≡ p ∷ drop (i + 1) pieces
  rest = drop_more pieces i p there ∙ ap (λ q. q ∷ drop (i + 1) pieces) (sym is)

  -- in a piece
  pub stops_in_piece : (from to : Moment) → StopsInPiece p vars from to → StopsIn (pieces_of (drop i pieces)) vars prefix from to
  stops_in_piece from to h = subst (λ l. StopsIn (pieces_of l) vars prefix from to) (sym rest) (in_first p (drop (i + 1) pieces) vars prefix from to h)

  -- after a piece
  pub stops_past_piece : (new : List ℕ) (from at to : Moment) → Goes from.outside (after_piece p vars prefix from.fns) [] (over (expanded (Some new) at.fns)) at.outside
      → StopsIn (pieces_of (drop (i + 1) pieces)) vars new at to → StopsIn (pieces_of (drop i pieces)) vars prefix from to
  stops_past_piece new from at to g h =
      subst (λ l. StopsIn (pieces_of l) vars prefix from to) (sym rest) (past_first p (drop (i + 1) pieces) vars prefix new from at to g h)

-- before all arguments
pub texts_before : (args : Arguments) (vars : Variables) (from : Moment) → StopsInTexts args vars from from
unfolding StopsInTexts
texts_before no_arguments vars from = refl
texts_before (argument ps more) vars from = inl (stops_before ps vars [] from)

in_first_text : (ps : Pieces) (args : List Pieces) (vars : Variables) (from to : Moment) → StopsIn ps vars [] from to
    → StopsInTexts (arguments_of (ps ∷ args)) vars from to
unfolding StopsInTexts
in_first_text ps args vars from to h = inl h

past_first_text : (ps : Pieces) (args : List Pieces) (vars : Variables) (new : List ℕ) (from at to : Moment)
    → Goes from.outside (after_pieces ps vars [] from.fns) [] (over (expanded (Some new) at.fns)) at.outside
    → StopsInTexts (arguments_of args) vars at to → StopsInTexts (arguments_of (ps ∷ args)) vars from to
unfolding StopsInTexts
past_first_text ps args vars new from at to g h = inr (new, at, g, h)

module _ (vars : Variables) (args : List Pieces) (i : ℕ) (ps : Pieces) (there : i < length args) (is : ps ≡ get_or args i ps) where
  rest_of_texts : drop i args ≡ ps ∷ drop (i + 1) args
  rest_of_texts = drop_more args i ps there ∙ ap (λ q. q ∷ drop (i + 1) args) (sym is)

  -- in an argument
  pub stops_in_argument : (from to : Moment) → StopsIn ps vars [] from to → StopsInTexts (arguments_of (drop i args)) vars from to
  stops_in_argument from to h = subst (λ l. StopsInTexts (arguments_of l) vars from to) (sym rest_of_texts) (in_first_text ps (drop (i + 1) args) vars from to h)

  -- after an argument
  pub stops_past_argument : (new : List ℕ) (from at to : Moment) → Goes from.outside (after_pieces ps vars [] from.fns) [] (over (expanded (Some new) at.fns)) at.outside
      → StopsInTexts (arguments_of (drop (i + 1) args)) vars at to → StopsInTexts (arguments_of (drop i args)) vars from to
  stops_past_argument new from at to g h =
      subst (λ l. StopsInTexts (arguments_of l) vars from to) (sym rest_of_texts) (past_first_text ps (drop (i + 1) args) vars new from at to g h)

-- before a reference's value
pub reference_stops : {A : Type 0} (res : Result A VarError) (r : Reference) (vars : Variables) (from : Moment) → OutOfMemory res (StopsInReference r vars from from)
reference_stops res r vars from = out_of_memory res (reference_before r vars from)

-- at the value of a function that a variable reference names
pub named_stops : (name : List ℕ) (vars : Variables) (from to : Moment) (f : Function) → option_and_then (taking 0) (function_of_name name) ≡ Some f
    → StopsInValue vars from to f [] → StopsInReference (variable name) vars from to
unfolding StopsInReference
named_stops name vars from to f is h =
    inr (subst (λ w. IsSomeAnd w (λ f. (to ≡ from) ⊎ Passes from (over (expanded (Some []) from.fns)) (λ ts at. StopsInValue vars at to f ts))) (sym is) (inr ([], from, goes-nothing _ _, h)))

module _ (name : List ℕ) (args : Arguments) (vars : Variables) (from to : Moment) (f : Function) (is : option_and_then (taking (count args)) (function_named name) ≡ Some f) where
  in_call : StopsInTexts args vars from to ⊎ Passes from (after_texts args vars [] from.fns) (λ ts at. StopsInValue vars at to f ts) → StopsInReference (call name args) vars from to
  unfolding StopsInReference
  in_call h = inr (subst (λ w. IsSomeAnd w (λ f. StopsInTexts args vars from to ⊎ Passes from (after_texts args vars [] from.fns) (λ ts at. StopsInValue vars at to f ts))) (sym is) h)

  -- in the arguments of a call
  pub arguments_stop : StopsInTexts args vars from to → StopsInReference (call name args) vars from to
  arguments_stop h = in_call (inl h)

  -- at its value
  pub call_stops : (texts : List (List ℕ)) (at : Moment) → Goes from.outside (after_texts args vars [] from.fns) [] (over (expanded (Some texts) at.fns)) at.outside
      → StopsInValue vars at to f texts → StopsInReference (call name args) vars from to
  call_stops texts at g h = in_call (inr (texts, at, g, h))
