-- The kind that the properties of its type make, each taken by its name.
use Rattle.std.specs.Prelude.{ℕ, ◌^◌, ℤ, pos, negsuc, Bool, List, Option, Some, None, if◌then◌else◌, nat_lt, codes}
use Rattle.template_text.specs.Pieces.{Pieces}
use Rattle.jm_base.specs.declared.types.ScriptReply.{ScriptReply}
use Rattle.element_props.specs.ChoiceTexts.{named, on_error_word, on_errors, field_word, fields, method_word, methods, at_end_word, at_ends, share_word, shares, test_word, tests, comparison_word, comparisons}
use Rattle.element_props.specs.NamedProps.{NamedValue, value_named, rest}
use Rattle.element_props.specs.declared.prop.Pair.{Pair}
use Rattle.element_props.specs.declared.prop.Prop.{Prop}
use Rattle.element_props.specs.declared.prop.Prop.TheVariants.{Absent, Template, Text, Number, Truth, Word, Pattern, Pairs, Replies, Texts, Patterns}
use Rattle.element_tree.specs.declared.kinds.Kind.{Kind}
use Rattle.element_tree.specs.declared.kinds.Kind.TheVariants as kinds
use Rattle.element_tree.specs.declared.kinds.Assertion.TheVariants.{Response, Duration, Size}
use Rattle.element_tree.specs.declared.kinds.Loops.{Loops}
use Rattle.element_tree.specs.declared.kinds.Loops.TheVariants.{Forever, Times}
use Rattle.element_tree.specs.declared.types.ElementType.{ElementType}
use Rattle.element_tree.specs.declared.types.ElementType.TheVariants as types

infixl 10 ◌>>=◌
abbrev pub ◌>>=◌ : {A B : Type 0} → Option A → (A → Option B) → Option B
None >>= f = None
(Some x) >>= f = f x

-- ---- one property as the field's type

abbrev pub template_in : Prop → Option Pieces
template_in (Template s) = Some s
template_in p = None

abbrev pub text_in : Prop → Option (List ℕ)
text_in (Text s) = Some s
text_in p = None

abbrev pub maybe_in : Prop → Option (Option (List ℕ))
maybe_in (Text s) = Some (Some s)
maybe_in Absent = Some None
maybe_in p = None

-- a whole number below this bound, from 0
abbrev pub number_in : ℕ → Prop → Option ℕ
number_in bound (Number (pos n)) = if nat_lt n bound then Some n else None
number_in bound p = None

-- a whole number of 32 signed bits
abbrev pub signed_in : Prop → Option ℤ
signed_in (Number (pos n)) = if nat_lt n (2 ^ 31) then Some (pos n) else None
signed_in (Number (negsuc n)) = if nat_lt n (2 ^ 31) then Some (negsuc n) else None
signed_in p = None

-- -1 is round after round without an end
abbrev pub loops_in : Prop → Option Loops
loops_in (Number (pos n)) = if nat_lt n (2 ^ 32) then Some (Times n) else None
loops_in (Number (negsuc n)) = Some Forever
loops_in p = None

abbrev pub truth_in : Prop → Option Bool
truth_in (Truth b) = Some b
truth_in p = None

abbrev pub pattern_in : Prop → Option (List ℕ)
pattern_in (Pattern s) = Some s
pattern_in p = None

abbrev pub pairs_in : Prop → Option (List Pair)
pairs_in (Pairs ps) = Some ps
pairs_in p = None

abbrev pub texts_in : Prop → Option (List (List ℕ))
texts_in (Texts ts) = Some ts
texts_in p = None

abbrev pub replies_in : Prop → Option (List ScriptReply)
replies_in (Replies rs) = Some rs
replies_in p = None

-- the patterns of a response assertion: their texts, what was made of each, and what was made of the text around each
abbrev pub Tried : Type 0
Tried = List (List ℕ) × List (List ℕ) × List (List ℕ)

abbrev pub patterns_in : Prop → Option Tried
patterns_in (Patterns texts regexes whole_regexes) = Some (texts, regexes, whole_regexes)
patterns_in p = None

abbrev pub maybe_replies_in : Prop → Option (Option (List ScriptReply))
maybe_replies_in (Replies rs) = Some (Some rs)
maybe_replies_in Absent = Some None
maybe_replies_in p = None

-- the value that a text stands for
abbrev pub choice_in : {C : Type 0} → (C → List ℕ) → List C → Prop → Option C
choice_in word all (Word text) = named word all text
choice_in word all p = None

-- ---- a line for each type, its fields in byte order of the properties

unfoldable pub kind_of : ElementType → List NamedValue → Option Kind
kind_of types.TestPlan ps = do
  version ← number_in (2 ^ 8) (value_named (codes "version") ps)
  Some (kinds.TestPlan version)
kind_of types.ThreadGroup ps = do
  loops ← loops_in (value_named (codes "loops") ps)
  on_error ← choice_in on_error_word on_errors (value_named (codes "onError") (rest ps))
  ramp_ms ← number_in (2 ^ 32) (value_named (codes "rampMs") (rest (rest ps)))
  threads ← number_in (2 ^ 16) (value_named (codes "threads") (rest (rest (rest ps))))
  Some (kinds.ThreadGroup loops on_error ramp_ms threads)
kind_of types.Simple ps = Some kinds.Simple
kind_of types.OnceOnly ps = Some kinds.OnceOnly
kind_of types.Interleave ps = Some kinds.Interleave
kind_of types.Random ps = Some kinds.Random
kind_of types.RandomOrder ps = Some kinds.RandomOrder
kind_of types.Transaction ps = Some kinds.Transaction
kind_of types.Loop ps = do
  loops ← template_in (value_named (codes "loops") ps)
  Some (kinds.Loop loops)
kind_of types.If ps = do
  all ← truth_in (value_named (codes "all") ps)
  condition ← template_in (value_named (codes "condition") (rest ps))
  Some (kinds.If all condition)
kind_of types.While ps = do
  condition ← template_in (value_named (codes "condition") ps)
  Some (kinds.While condition)
kind_of types.Switch ps = do
  value ← template_in (value_named (codes "value") ps)
  Some (kinds.Switch value)
kind_of types.ForEach ps = do
  end ← number_in (2 ^ 32) (value_named (codes "end") ps)
  input ← text_in (value_named (codes "input") (rest ps))
  output ← text_in (value_named (codes "output") (rest (rest ps)))
  separator ← truth_in (value_named (codes "separator") (rest (rest (rest ps))))
  start ← number_in (2 ^ 32) (value_named (codes "start") (rest (rest (rest (rest ps)))))
  Some (kinds.ForEach end input output separator start)
kind_of types.CriticalSection ps = do
  lock ← text_in (value_named (codes "lock") ps)
  Some (kinds.CriticalSection lock)
kind_of types.Script ps = do
  replies ← replies_in (value_named (codes "replies") ps)
  request ← template_in (value_named (codes "request") (rest ps))
  Some (kinds.Script replies request)
kind_of types.Http ps = do
  body ← template_in (value_named (codes "body") ps)
  host ← template_in (value_named (codes "host") (rest ps))
  method ← choice_in method_word methods (value_named (codes "method") (rest (rest ps)))
  params ← pairs_in (value_named (codes "params") (rest (rest (rest ps))))
  path ← template_in (value_named (codes "path") (rest (rest (rest (rest ps)))))
  port ← template_in (value_named (codes "port") (rest (rest (rest (rest (rest ps))))))
  replies ← maybe_replies_in (value_named (codes "replies") (rest (rest (rest (rest (rest (rest ps)))))))
  Some (kinds.Http body host method params path port replies)
kind_of types.UserVariables ps = do
  vars ← pairs_in (value_named (codes "vars") ps)
  Some (kinds.UserVariables vars)
kind_of types.HttpDefaults ps = do
  host ← template_in (value_named (codes "host") ps)
  path ← template_in (value_named (codes "path") (rest ps))
  port ← template_in (value_named (codes "port") (rest (rest ps)))
  Some (kinds.HttpDefaults host path port)
kind_of types.HeaderManager ps = do
  headers ← pairs_in (value_named (codes "headers") ps)
  Some (kinds.HeaderManager headers)
kind_of types.Counter ps = do
  increment ← number_in (2 ^ 64) (value_named (codes "increment") ps)
  maximum ← number_in (2 ^ 64) (value_named (codes "maximum") (rest ps))
  start ← number_in (2 ^ 64) (value_named (codes "start") (rest (rest ps)))
  var ← text_in (value_named (codes "var") (rest (rest (rest ps))))
  Some (kinds.Counter increment maximum start var)
kind_of types.DataSet ps = do
  at_end ← choice_in at_end_word at_ends (value_named (codes "atEnd") ps)
  names ← texts_in (value_named (codes "names") (rest ps))
  share ← choice_in share_word shares (value_named (codes "share") (rest (rest ps)))
  text ← text_in (value_named (codes "text") (rest (rest (rest ps))))
  Some (kinds.DataSet at_end names share text)
kind_of types.UserParameters ps = do
  vars ← pairs_in (value_named (codes "vars") ps)
  Some (kinds.UserParameters vars)
kind_of types.ConstantTimer ps = do
  delay ← template_in (value_named (codes "delay") ps)
  Some (kinds.ConstantTimer delay)
kind_of types.UniformTimer ps = do
  offset ← template_in (value_named (codes "offset") ps)
  range ← template_in (value_named (codes "range") (rest ps))
  Some (kinds.UniformTimer offset range)
kind_of types.RegexExtractor ps = do
  default ← maybe_in (value_named (codes "default") ps)
  field ← choice_in field_word fields (value_named (codes "field") (rest ps))
  match_ ← signed_in (value_named (codes "match") (rest (rest ps)))
  pattern ← pattern_in (value_named (codes "pattern") (rest (rest (rest ps))))
  ref_ ← text_in (value_named (codes "ref") (rest (rest (rest (rest ps)))))
  template ← text_in (value_named (codes "template") (rest (rest (rest (rest (rest ps))))))
  Some (kinds.RegexExtractor (record { default = default; field = field; match_ = match_; pattern = pattern; ref_ = ref_; template = template }))
kind_of types.JsonExtractor ps = do
  default ← maybe_in (value_named (codes "default") ps)
  match_ ← signed_in (value_named (codes "match") (rest ps))
  path ← text_in (value_named (codes "path") (rest (rest ps)))
  ref_ ← text_in (value_named (codes "ref") (rest (rest (rest ps))))
  Some (kinds.JsonExtractor (record { default = default; match_ = match_; path = path; ref_ = ref_ }))
kind_of types.BoundaryExtractor ps = do
  default ← maybe_in (value_named (codes "default") ps)
  field ← choice_in field_word fields (value_named (codes "field") (rest ps))
  left ← text_in (value_named (codes "left") (rest (rest ps)))
  match_ ← signed_in (value_named (codes "match") (rest (rest (rest ps))))
  ref_ ← text_in (value_named (codes "ref") (rest (rest (rest (rest ps)))))
  right ← text_in (value_named (codes "right") (rest (rest (rest (rest (rest ps))))))
  Some (kinds.BoundaryExtractor (record { default = default; field = field; left = left; match_ = match_; ref_ = ref_; right = right }))
kind_of types.ResponseAssertion ps = do
  field ← choice_in field_word fields (value_named (codes "field") ps)
  ignore_status ← truth_in (value_named (codes "ignoreStatus") (rest ps))
  not ← truth_in (value_named (codes "not") (rest (rest ps)))
  or ← truth_in (value_named (codes "or") (rest (rest (rest ps))))
  patterns ← patterns_in (value_named (codes "patterns") (rest (rest (rest (rest ps)))))
  test ← choice_in test_word tests (value_named (codes "test") (rest (rest (rest (rest (rest ps))))))
  Some (kinds.ResponseAssertion (Response field ignore_status not or patterns.0 patterns.1 test patterns.2))
kind_of types.DurationAssertion ps = do
  ms ← number_in (2 ^ 32) (value_named (codes "ms") ps)
  Some (kinds.DurationAssertion (Duration ms))
kind_of types.SizeAssertion ps = do
  op ← choice_in comparison_word comparisons (value_named (codes "op") ps)
  size ← number_in (2 ^ 32) (value_named (codes "size") (rest ps))
  Some (kinds.SizeAssertion (Size op size))
kind_of types.Listener ps = Some kinds.Listener
