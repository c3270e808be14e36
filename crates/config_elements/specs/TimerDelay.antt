-- The delay of the timers of a sampler.
use Rattle.std.specs.Prelude.{ℕ, zero, suc, ◌+◌, ◌-◌, ◌%◌, ◌^◌, min, List, [], ◌∷◌, slice_get, unwrap_or}
use Rattle.std.specs.Option.{option_map}
use Rattle.jm_base.specs.Run.{over}
use Rattle.template_text.specs.Pieces.{Pieces}
use Rattle.element_tree.specs.declared.kinds.Element.{Element}
use Rattle.element_tree.specs.declared.kinds.Kind.{Kind}
use Rattle.element_tree.specs.declared.kinds.Kind.TheVariants.{ConstantTimer, UniformTimer}
use Rattle.var_functions.specs.FunctionState.{drawn, draw}
use Rattle.cursor_steps.specs.Numeral.{decimal_number}
use Rattle.trials.specs.Tried.{Try, fine, giving, ◌>=>◌, text}

-- decimal digits, at most 2^32 - 1; any other text is 0
abbrev pub milliseconds : List ℕ → ℕ
milliseconds text = unwrap_or (decimal_number text) 0

abbrev pub time_of : Pieces → Try ℕ
time_of template = text template >=> λ t. giving (milliseconds t)

-- a word is drawn
abbrev pub drawing : Try ℕ
drawing user = over (fine (drawn user.fns.random) (record { vars = user.vars; fns = draw user.fns }))

-- a time below a range, by a word that is drawn; of no range it is 0, and nothing is drawn
abbrev pub within : ℕ → Try ℕ
within zero = giving 0
within (suc r) = drawing >=> λ word. giving (word % suc r)

abbrev pub timer : Kind → Try ℕ
timer (ConstantTimer delay) = time_of delay
timer (UniformTimer offset range) = time_of offset >=> λ ms. time_of range >=> λ r. within r >=> λ more. giving (ms + more)
timer kind = giving 0

-- the element of this number
abbrev pub timer_at : List Element → ℕ → Try ℕ
timer_at elements number = unwrap_or (option_map (λ e. timer e.kind) (slice_get elements number)) (giving 0)

-- at most 2^32 - 1
abbrev pub capped : ℕ → ℕ
capped n = min n (2 ^ 32 - 1)

-- the sum of that many milliseconds and of these timers
abbrev pub delay_after : List Element → ℕ → List ℕ → Try ℕ
delay_after elements sum [] = giving sum
delay_after elements sum (n ∷ ns) = timer_at elements n >=> λ ms. delay_after elements (capped (sum + ms)) ns

-- how long a sampler with these timers is delayed, in milliseconds
abbrev pub delay : List Element → List ℕ → Try ℕ
delay elements timers = delay_after elements 0 timers
