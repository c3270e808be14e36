-- The functions: for each its name, how many arguments it takes, and its value where they have their form.
use Rattle.std.specs.Prelude.{ℕ, ℤ, ◌==◌, ◌||◌, nat_le, nat_eq, int_le, Bool, is_some, List, [], ◌∷◌, Option, Some, None, Result, Ok, Err, unwrap_or, slice_get, codes, if◌then◌else◌}
use Rattle.std.specs.Option.{option_map}
use Rattle.std.specs.Fmt.{decimal, signed_decimal}
use lib.Pointwise.{pointwise}
use Rattle.jm_base.specs.Run.{Run, over, ◌>>=◌, reading}
use Rattle.cond_expr.specs.declared.value.CondValue.{CondValue}
use Rattle.cond_expr.specs.declared.value.CondValue.TheVariants.{Number, Text, Truth}
use Rattle.cond_expr.specs.ConditionMachine.{condition}
use Rattle.var_functions.specs.declared.function.Function.{Function}
use Rattle.var_functions.specs.declared.function.Function.TheVariants.{ThreadNum, Counter, Random, IntSum, Variable, Time, Property, IsVarDefined, Condition}
use Rattle.thread_vars.specs.Vars.{Variables, value_of, truth_text}
use Rattle.var_functions.specs.RunProps.{property_of}
use Rattle.var_functions.specs.Numbers.{number, picked, int_sum}
use Rattle.var_functions.specs.FunctionState.{Functions, draw, drawn, count}

-- the names, without the `__` before them
abbrev pub table : List (List ℕ × Function)
table =
    (codes "threadNum", ThreadNum) ∷ (codes "counter", Counter) ∷ (codes "Random", Random) ∷ (codes "intSum", IntSum) ∷ (codes "V", Variable) ∷
    (codes "time", Time) ∷ (codes "P", Property) ∷ (codes "isVarDefined", IsVarDefined) ∷ (codes "jexl3", Condition) ∷ []

abbrev pub named_in : List (List ℕ × Function) → List ℕ → Option Function
named_in [] name = None
named_in (row ∷ rows) name = if pointwise nat_eq name row.0 then Some row.1 else named_in rows name

-- the function of this name
abbrev pub function_named : List ℕ → Option Function
function_named name = named_in table name

-- how many arguments a function takes
abbrev pub takes : Function → ℕ → Bool
takes ThreadNum n = n == 0
takes Counter n = n == 1
takes Random n = n == 2
takes IntSum n = nat_le 2 n
takes Variable n = n == 1 || n == 2
takes Time n = n == 0
takes Property n = n == 1 || n == 2
takes IsVarDefined n = n == 1
takes Condition n = n == 1

-- the argument at this place, from 0
abbrev pub argument : ℕ → List (List ℕ) → List ℕ
argument i args = unwrap_or (slice_get args i) []

-- the second argument, where there is one
abbrev pub second_or : List ℕ → List (List ℕ) → List ℕ
second_or other args = unwrap_or (slice_get args 1) other

-- What a function gives, where its arguments have its form, and what functions keep then.
abbrev pub Answer : Type 0
Answer = Option (List ℕ) × Functions

-- the arguments haven't the form
abbrev pub no_value : Functions → Answer
no_value fns = (None, fns)

-- `__counter`: its argument is `TRUE` or `true`
abbrev pub counts : List ℕ → Bool
counts flag = pointwise nat_eq flag (codes "TRUE") || pointwise nat_eq flag (codes "true")

abbrev pub counter_value : List ℕ → Functions → Answer
counter_value flag fns = if counts flag then (Some (decimal (count fns).counted), count fns) else no_value fns

-- `__Random`: its arguments are two numbers, the least first
abbrev pub random_value : Option ℤ → Option ℤ → Functions → Answer
random_value (Some least) (Some most) fns =
    if int_le least most then (Some (signed_decimal (picked least most (drawn fns.random))), draw fns) else no_value fns
random_value (Some least) None fns = no_value fns
random_value None most fns = no_value fns

-- the text of a condition's value
abbrev pub condition_value : CondValue → List ℕ
condition_value (Number z) = signed_decimal z
condition_value (Text t) = t
condition_value (Truth b) = truth_text b

-- and no text where the condition can't be read or has no value
abbrev pub condition_text : Result CondValue ℕ → List ℕ
condition_text (Ok v) = condition_value v
condition_text (Err at) = []

-- The value of a function at its arguments, of which there are as many as it takes.
abbrev pub value : Function → List (List ℕ) → Variables → Functions → Run Answer
value ThreadNum args vars fns = over (Some (decimal fns.thread_num), fns)
value Counter args vars fns = over (counter_value (argument 0 args) fns)
value Random args vars fns = over (random_value (number (argument 0 args)) (number (argument 1 args)) fns)
value IntSum args vars fns = over (option_map signed_decimal (int_sum args), fns)
value Variable args vars fns = over (Some (unwrap_or (value_of (argument 0 args) vars) (second_or (argument 0 args) args)), fns)
value Time args vars fns = reading >>= λ t. over (Some (decimal t), fns)
value Property args vars fns = over (Some (unwrap_or (property_of (argument 0 args) fns.props) (second_or (codes "1") args)), fns)
value IsVarDefined args vars fns = over (Some (truth_text (is_some (value_of (argument 0 args) vars))), fns)
value Condition args vars fns = over (Some (condition_text (condition (argument 0 args))), fns)
