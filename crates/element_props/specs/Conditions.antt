-- The first condition of a template that can't be read.
use Rattle.std.specs.Prelude.{ℕ, ◌+◌, Bool, true, false, List, length, codes, bytes_eq, if◌then◌else◌, Option, Some, None, Result, Ok, Err, option_and_then}
use Rattle.template_text.specs.Pieces.{Reference, variable, call, Pieces, no_more, text, reference, Arguments, no_arguments, argument}
use Rattle.cond_expr.specs.ConditionMachine.{reading_of}

-- the first of two, where there is one
abbrev pub first_of : {A : Type 0} → Option A → Option A → Option A
first_of None later = later
first_of (Some n) later = Some n

-- where a text is not a condition: the first byte that can't stand there
abbrev pub fault_of : {A : Type 0} → Result A ℕ → Option ℕ
fault_of (Ok r) = None
fault_of (Err at) = Some at

abbrev pub fault_in : List ℕ → Option ℕ
fault_in s = fault_of (reading_of s)

abbrev pub is_end : Pieces → Bool
is_end no_more = true
is_end (text t more) = false
is_end (reference r more) = false

-- the text of a template that is a single plain text
abbrev pub single_text : Pieces → Option (List ℕ)
single_text no_more = None
single_text (text t more) = if is_end more then Some t else None
single_text (reference r more) = None

-- the text of a call's one argument, where it is a single plain text
abbrev pub only_text : Arguments → Option (List ℕ)
only_text no_arguments = None
only_text (argument ps no_arguments) = single_text ps
only_text (argument ps (argument qs more)) = None

-- the condition of a call of `__jexl3`
abbrev pub condition_of : List ℕ → Arguments → Option (List ℕ)
condition_of name args = if bytes_eq name (codes "jexl3") then only_text args else None

-- from left to right, also in the arguments of calls
abbrev mutual
  pub bad_condition : Pieces → Option ℕ
  bad_condition no_more = None
  bad_condition (text t more) = bad_condition more
  bad_condition (reference r more) = first_of (bad_reference r) (bad_condition more)

  pub bad_reference : Reference → Option ℕ
  bad_reference (variable n) = None
  bad_reference (call n args) = first_of (option_and_then fault_in (condition_of n args)) (bad_argument args)

  pub bad_argument : Arguments → Option ℕ
  bad_argument no_arguments = None
  bad_argument (argument ps more) = first_of (bad_condition ps) (bad_argument more)

abbrev mutual
  -- how many bytes of plain text stand in a template, at any depth
  pub plain_bytes : Pieces → ℕ
  plain_bytes no_more = 0
  plain_bytes (text t more) = length t + plain_bytes more
  plain_bytes (reference r more) = reference_bytes r + plain_bytes more

  pub reference_bytes : Reference → ℕ
  reference_bytes (variable n) = 0
  reference_bytes (call n args) = arguments_bytes args

  pub arguments_bytes : Arguments → ℕ
  arguments_bytes no_arguments = 0
  arguments_bytes (argument ps more) = plain_bytes ps + arguments_bytes more
