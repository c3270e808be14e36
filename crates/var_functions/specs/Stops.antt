-- Where an evaluation from the left lacked memory: functions keep what the evaluated part left, and the outside was told what it tells.
use Rattle.std.specs.Prelude.{◌≡◌, ◌⊎◌, ℕ, List, [], Option, Some, IsSomeAnd, Result, IfErr, ⊤, option_and_then}
use Rattle.jm_base.specs.Run.{Run, over}
use Rattle.jm_base.specs.Outside.{Account, Goes}
use Rattle.template_text.specs.declared.template.Piece.{Piece}
use Rattle.template_text.specs.declared.template.Piece.TheVariants.{Text, Var, Call}
use Rattle.template_text.specs.View.{arguments_of}
use Rattle.template_text.specs.Pieces.{Reference, variable, call, Pieces, no_more, text, reference, Arguments, no_arguments, argument}
use Rattle.thread_vars.specs.declared.error.VarError.{VarError}
use Rattle.thread_vars.specs.declared.error.VarError.TheVariants.{ValueLimit, NoMemory}
use Rattle.var_functions.specs.declared.function.Function.{Function}
use Rattle.thread_vars.specs.Vars.{Variables}
use Rattle.var_functions.specs.FunctionState.{Functions}
use Rattle.var_functions.specs.Functions.{function_named, value}
use Rattle.var_functions.specs.Came.{LeftOf}
use Rattle.var_functions.specs.Expansion.{Expanded, expanded, and_then, appended, count, taking, function_of_name, referred, after_pieces, after_texts}

-- what functions keep and the outside, at one moment
pub record Moment : Type 0 where
  pub fns : Functions
  pub outside : Account

abbrev pub moment : Functions → Account → Moment
moment fns outside = record { fns = fns; outside = outside }

-- a part that was evaluated, and what stopped after it
abbrev pub Passes : {A : Type 0} → Moment → Run (Expanded A) → (A → Moment → Type 0) → Type 0
Passes {A} from run Then = (x : A) × (at : Moment) × Goes from.outside run [] (over (expanded (Some x) at.fns)) at.outside × Then x at

-- at a function's value, whose arguments have these texts: before it came or after
abbrev pub StopsInValue : Variables → Moment → Moment → Function → List (List ℕ) → Type 0
StopsInValue vars from to f texts =
    ((to.fns ≡ from.fns) × LeftOf from.outside (value f texts vars from.fns) to.outside)
    ⊎ ((v : Option (List ℕ)) × Goes from.outside (value f texts vars from.fns) [] (over (v, to.fns)) to.outside)

-- in a call: before it, in its arguments, or at its value
abbrev pub StopsInCall : Variables → Moment → Moment → Option Function → Type 0 → Run (Expanded (List (List ℕ))) → Type 0
StopsInCall vars from to which InArguments texts =
    (to ≡ from) ⊎ IsSomeAnd which (λ f. InArguments ⊎ Passes from texts (λ ts at. StopsInValue vars at to f ts))

unfoldable mutual
  -- before all pieces, in the first, or after it
  pub StopsIn : Pieces → Variables → List ℕ → Moment → Moment → Type 0
  StopsIn no_more vars prefix from to = to ≡ from
  StopsIn (text t more) vars prefix from to = (to ≡ from) ⊎ Passes from (appended prefix t from.fns) (λ new at. StopsIn more vars new at to)
  StopsIn (reference r more) vars prefix from to =
      StopsInReference r vars from to ⊎ Passes from (and_then (referred r vars from.fns) (appended prefix)) (λ new at. StopsIn more vars new at to)

  pub StopsInReference : Reference → Variables → Moment → Moment → Type 0
  StopsInReference (variable name) vars from to =
      StopsInCall vars from to (option_and_then (taking 0) (function_of_name name)) (to ≡ from) (over (expanded (Some []) from.fns))
  StopsInReference (call name args) vars from to =
      StopsInCall vars from to (option_and_then (taking (count args)) (function_named name)) (StopsInTexts args vars from to) (after_texts args vars [] from.fns)

  -- before all arguments, in the first, or after it
  pub StopsInTexts : Arguments → Variables → Moment → Moment → Type 0
  StopsInTexts no_arguments vars from to = to ≡ from
  StopsInTexts (argument ps more) vars from to =
      StopsIn ps vars [] from to ⊎ Passes from (after_pieces ps vars [] from.fns) (λ t at. StopsInTexts more vars at to)

-- in one piece
abbrev pub StopsInPiece : Piece → Variables → Moment → Moment → Type 0
StopsInPiece (Text t) vars from to = to ≡ from
StopsInPiece (Var name) vars from to = StopsInReference (variable name) vars from to
StopsInPiece (Call name args) vars from to = StopsInReference (call name (arguments_of args.items)) vars from to

-- what holds at this error
abbrev pub AtNoMemory : VarError → Type 0 → Type 0
AtNoMemory ValueLimit P = ⊤
AtNoMemory NoMemory P = P

-- what holds where memory ran out
abbrev pub OutOfMemory : {A : Type 0} → Result A VarError → Type 0 → Type 0
OutOfMemory result P = IfErr result (λ e. AtNoMemory e P)
