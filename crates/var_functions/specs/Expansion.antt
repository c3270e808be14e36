-- What a template gives, piece by piece from the left.
use Rattle.std.specs.Prelude.{ℕ, suc, nat_le, nat_eq, drop, List, [], ◌∷◌, ◌++◌, length, Option, Some, None, Result, Ok, Err, ◌≡◌, unwrap_or, option_and_then, if◌then◌else◌, codes}
use Rattle.std.specs.List.{starts_with}
use Rattle.jm_base.specs.Run.{Run, over, ◌>>=◌}
use Rattle.template_text.specs.declared.template.Piece.{Piece}
use Rattle.template_text.specs.declared.template.Piece.TheVariants.{Text, Var, Call}
use Rattle.template_text.specs.View.{arguments_of}
use Rattle.template_text.specs.Pieces.{Reference, variable, call, Pieces, no_more, text, reference, Arguments, no_arguments, argument, reference_spelling}
use Rattle.thread_vars.specs.declared.error.VarError.{VarError}
use Rattle.thread_vars.specs.declared.error.VarError.TheVariants.{ValueLimit, NoMemory}
use Rattle.var_functions.specs.declared.function.Function.{Function}
use Rattle.thread_vars.specs.Vars.{Variables, value_of, most_text}
use Rattle.var_functions.specs.FunctionState.{Functions}
use Rattle.var_functions.specs.Functions.{function_named, takes, Answer, value}

-- what came, or none where it would be past a limit, and what functions keep then
pub record Expanded (A : Type 0) : Type 0 where
  pub came : Option A
  pub fns : Functions

abbrev pub expanded : {A : Type 0} → Option A → Functions → Expanded A
expanded came fns = record { came = came; fns = fns }

-- goes on with what came, or ends past the limit
abbrev pub on_expanded : {A B : Type 0} → (A → Functions → Run (Expanded B)) → Expanded A → Run (Expanded B)
on_expanded next e = elim e.came [ None ↦ over (expanded None e.fns) | Some x ↦ next x e.fns ]

abbrev pub and_then : {A B : Type 0} → Run (Expanded A) → (A → Functions → Run (Expanded B)) → Run (Expanded B)
and_then run next = run >>= on_expanded next

-- a text, where it is within the limit
abbrev pub limited : List ℕ → Option (List ℕ)
limited t = if nat_le (length t) most_text then Some t else None

-- a piece's text after the text before it
abbrev pub appended : List ℕ → List ℕ → Functions → Run (Expanded (List ℕ))
appended prefix t fns = over (expanded (limited (prefix ++ t)) fns)

abbrev pub count : Arguments → ℕ
count no_arguments = 0
count (argument ps more) = suc (count more)

-- a function that takes that many arguments
abbrev pub taking : ℕ → Function → Option Function
taking n f = if takes f n then Some f else None

-- the value of a call, or its spelling where its arguments haven't the form
abbrev pub value_or_spelling : List ℕ → Answer → Run (Expanded (List ℕ))
value_or_spelling spelling answer = over (expanded (Some (unwrap_or answer.0 spelling)) answer.1)

-- A call: its own spelling, with no argument evaluated, where no function is named so or it takes another number of
-- arguments; otherwise the arguments' texts come first, and then its value.
abbrev pub called : Option Function → (Functions → Run (Expanded (List (List ℕ)))) → List ℕ → Variables → Functions → Run (Expanded (List ℕ))
called None args spelling vars fns = over (expanded (Some spelling) fns)
called (Some f) args spelling vars fns = and_then (args fns) (λ texts fns. value f texts vars fns >>= value_or_spelling spelling)

-- the function whose name stands after `__`
abbrev pub function_of_name : List ℕ → Option Function
function_of_name name = if starts_with nat_eq name (codes "__") then function_named (drop 2 name) else None

-- a variable reference: the variable's value, or the reference's spelling where it is not defined
abbrev pub named : Option Function → List ℕ → Variables → Functions → Run (Expanded (List ℕ))
named None name vars fns = over (expanded (Some (unwrap_or (value_of name vars) (reference_spelling (variable name)))) fns)
named (Some f) name vars fns = called (taking 0 f) (λ fns. over (expanded (Some []) fns)) (reference_spelling (variable name)) vars fns

unfoldable mutual
  -- pieces from the left, after the text before them
  pub after_pieces : Pieces → Variables → List ℕ → Functions → Run (Expanded (List ℕ))
  after_pieces no_more vars prefix fns = over (expanded (Some prefix) fns)
  after_pieces (text t more) vars prefix fns = and_then (appended prefix t fns) (after_pieces more vars)
  after_pieces (reference r more) vars prefix fns = and_then (and_then (referred r vars fns) (appended prefix)) (after_pieces more vars)

  -- a reference whose name is `__` and the name of a function is a call without arguments
  pub referred : Reference → Variables → Functions → Run (Expanded (List ℕ))
  referred (variable name) vars fns = named (function_of_name name) name vars fns
  referred (call name args) vars fns =
      called (option_and_then (taking (count args)) (function_named name)) (after_texts args vars []) (reference_spelling (call name args)) vars fns

  -- the texts of arguments from the left, after those before them
  pub after_texts : Arguments → Variables → List (List ℕ) → Functions → Run (Expanded (List (List ℕ)))
  after_texts no_arguments vars before fns = over (expanded (Some before) fns)
  after_texts (argument ps more) vars before fns = and_then (after_pieces ps vars [] fns) (λ t. after_texts more vars (before ++ t ∷ []))

-- the whole text of a template
abbrev pub expansion : Pieces → Variables → Functions → Run (Expanded (List ℕ))
expansion pieces vars fns = after_pieces pieces vars [] fns

-- one piece after the text before it
abbrev pub after_piece : Piece → Variables → List ℕ → Functions → Run (Expanded (List ℕ))
after_piece (Text t) vars prefix fns = appended prefix t fns
after_piece (Var name) vars prefix fns = and_then (referred (variable name) vars fns) (appended prefix)
after_piece (Call name args) vars prefix fns = and_then (referred (call name (arguments_of args.items)) vars fns) (appended prefix)

-- a text after it was to grow to a wanted one, or why it did not
abbrev pub Grows : List ℕ → List ℕ → Result (Unit {0}) VarError → Type 0
Grows wanted new (Ok u) = limited wanted ≡ Some new
Grows wanted new (Err ValueLimit) = limited wanted ≡ None
Grows wanted new (Err NoMemory) = Unit {0}
