-- The types of element by name, each with its properties.
use Rattle.std.specs.Prelude.{ℕ, pos, negsuc, true, false, List, [], ◌∷◌, Option, Some, None, codes, bytes_eq, map, if◌then◌else◌}
use Rattle.element_props.specs.ChoiceTexts.{on_error_word, on_errors, field_word, fields, method_word, methods, at_end_word, at_ends, share_word, shares, test_word, tests, comparison_word, comparisons}
use Rattle.element_props.specs.FormRows.{Row, ◌is◌otherwise◌, largest, choice, csv, filled, first_choice, flag, json_path, lock, no_pairs, number_default, optional, pairs, pattern, plain, replies, required, template, test_patterns, text_default, texts, truth_default, up_to, whole}
use Rattle.element_tree.specs.declared.types.ElementType.{ElementType}
use Rattle.element_tree.specs.declared.types.ElementType.TheVariants as types

-- the properties of a type, in byte order of their names; the version of the plan decides which properties there are
abbrev pub rows : ℕ → ElementType → List Row
rows version types.TestPlan = (codes "version" is whole (pos 1) (pos 1) otherwise number_default (pos 1)) ∷ []
rows version types.ThreadGroup =
    (codes "loops" is whole (negsuc 0) (pos 2147483647) otherwise number_default (pos 1))
    ∷ (codes "onError" is choice (map on_error_word on_errors) otherwise first_choice)
    ∷ (codes "rampMs" is whole (pos 0) (pos 86400000) otherwise number_default (pos 0))
    ∷ (codes "threads" is whole (pos 1) (pos 64) otherwise number_default (pos 1))
    ∷ []
rows version types.Simple = []
rows version types.OnceOnly = []
rows version types.Interleave = []
rows version types.Random = []
rows version types.RandomOrder = []
rows version types.Transaction = []
rows version types.Loop = (codes "loops" is template otherwise text_default (codes "1")) ∷ []
rows version types.If =
    (codes "all" is flag otherwise truth_default false)
    ∷ (codes "condition" is template otherwise required)
    ∷ []
rows version types.While = (codes "condition" is template otherwise text_default []) ∷ []
rows version types.Switch = (codes "value" is template otherwise text_default []) ∷ []
rows version types.ForEach =
    (codes "end" is whole (pos 0) (pos 4294967295) otherwise number_default (pos 4294967295))
    ∷ (codes "input" is filled otherwise required)
    ∷ (codes "output" is filled otherwise required)
    ∷ (codes "separator" is flag otherwise truth_default true)
    ∷ (codes "start" is whole (pos 0) (pos 4294967295) otherwise number_default (pos 0))
    ∷ []
rows version types.CriticalSection = (codes "lock" is lock otherwise required) ∷ []
rows version types.Script =
    (codes "replies" is replies otherwise required)
    ∷ (codes "request" is template otherwise text_default [])
    ∷ []
rows version types.Http =
    (codes "body" is template otherwise text_default [])
    ∷ (codes "host" is template otherwise text_default [])
    ∷ (codes "method" is choice (map method_word methods) otherwise first_choice)
    ∷ (codes "params" is pairs otherwise no_pairs)
    ∷ (codes "path" is template otherwise text_default [])
    ∷ (codes "port" is template otherwise text_default [])
    ∷ (codes "replies" is replies otherwise optional)
    ∷ []
rows version types.UserVariables = (codes "vars" is pairs otherwise required) ∷ []
rows version types.HttpDefaults =
    (codes "host" is template otherwise text_default [])
    ∷ (codes "path" is template otherwise text_default [])
    ∷ (codes "port" is template otherwise text_default [])
    ∷ []
rows version types.HeaderManager = (codes "headers" is pairs otherwise required) ∷ []
rows version types.Counter =
    (codes "increment" is whole (pos 0) largest otherwise number_default (pos 0))
    ∷ (codes "maximum" is whole (pos 0) largest otherwise number_default largest)
    ∷ (codes "start" is up_to (codes "maximum") otherwise number_default (pos 0))
    ∷ (codes "var" is plain otherwise required)
    ∷ []
rows version types.DataSet =
    (codes "atEnd" is choice (map at_end_word at_ends) otherwise first_choice)
    ∷ (codes "names" is texts otherwise required)
    ∷ (codes "share" is choice (map share_word shares) otherwise required)
    ∷ (codes "text" is csv (codes "names") otherwise required)
    ∷ []
rows version types.UserParameters = (codes "vars" is pairs otherwise required) ∷ []
rows version types.ConstantTimer = (codes "delay" is template otherwise text_default (codes "0")) ∷ []
rows version types.UniformTimer =
    (codes "offset" is template otherwise text_default (codes "0"))
    ∷ (codes "range" is template otherwise text_default (codes "0"))
    ∷ []
rows version types.RegexExtractor =
    (codes "default" is plain otherwise optional)
    ∷ (codes "field" is choice (map field_word fields) otherwise first_choice)
    ∷ (codes "match" is whole (negsuc 0) (pos 65536) otherwise number_default (pos 1))
    ∷ (codes "pattern" is pattern otherwise required)
    ∷ (codes "ref" is filled otherwise required)
    ∷ (codes "template" is plain otherwise text_default (codes "$1$"))
    ∷ []
rows version types.JsonExtractor =
    (codes "default" is plain otherwise optional)
    ∷ (codes "match" is whole (negsuc 0) (pos 65536) otherwise number_default (pos 1))
    ∷ (codes "path" is json_path otherwise required)
    ∷ (codes "ref" is filled otherwise required)
    ∷ []
rows version types.BoundaryExtractor =
    (codes "default" is plain otherwise optional)
    ∷ (codes "field" is choice (map field_word fields) otherwise first_choice)
    ∷ (codes "left" is filled otherwise required)
    ∷ (codes "match" is whole (negsuc 0) (pos 65536) otherwise number_default (pos 1))
    ∷ (codes "ref" is filled otherwise required)
    ∷ (codes "right" is filled otherwise required)
    ∷ []
rows version types.ResponseAssertion =
    (codes "field" is choice (map field_word fields) otherwise first_choice)
    ∷ (codes "ignoreStatus" is flag otherwise truth_default false)
    ∷ (codes "not" is flag otherwise truth_default false)
    ∷ (codes "or" is flag otherwise truth_default false)
    ∷ (codes "patterns" is test_patterns otherwise required)
    ∷ (codes "test" is choice (map test_word tests) otherwise required)
    ∷ []
rows version types.DurationAssertion = (codes "ms" is whole (pos 0) (pos 4294967295) otherwise required) ∷ []
rows version types.SizeAssertion =
    (codes "op" is choice (map comparison_word comparisons) otherwise required)
    ∷ (codes "size" is whole (pos 0) (pos 4294967295) otherwise required)
    ∷ []
rows version types.Listener = []

-- the name of a type in a plan
abbrev pub type_name : ElementType → List ℕ
type_name types.TestPlan = codes "TestPlan"
type_name types.ThreadGroup = codes "ThreadGroup"
type_name types.Simple = codes "Simple"
type_name types.OnceOnly = codes "OnceOnly"
type_name types.Interleave = codes "Interleave"
type_name types.Random = codes "Random"
type_name types.RandomOrder = codes "RandomOrder"
type_name types.Transaction = codes "Transaction"
type_name types.Loop = codes "Loop"
type_name types.If = codes "If"
type_name types.While = codes "While"
type_name types.Switch = codes "Switch"
type_name types.ForEach = codes "ForEach"
type_name types.CriticalSection = codes "CriticalSection"
type_name types.Script = codes "Script"
type_name types.Http = codes "Http"
type_name types.UserVariables = codes "UserVariables"
type_name types.HttpDefaults = codes "HttpDefaults"
type_name types.HeaderManager = codes "HeaderManager"
type_name types.Counter = codes "Counter"
type_name types.DataSet = codes "DataSet"
type_name types.UserParameters = codes "UserParameters"
type_name types.ConstantTimer = codes "ConstantTimer"
type_name types.UniformTimer = codes "UniformTimer"
type_name types.RegexExtractor = codes "RegexExtractor"
type_name types.JsonExtractor = codes "JsonExtractor"
type_name types.BoundaryExtractor = codes "BoundaryExtractor"
type_name types.ResponseAssertion = codes "ResponseAssertion"
type_name types.DurationAssertion = codes "DurationAssertion"
type_name types.SizeAssertion = codes "SizeAssertion"
type_name types.Listener = codes "Listener"

-- the types by name
abbrev pub named : List (List ℕ × ElementType)
named =
    (codes "TestPlan", types.TestPlan)
    ∷ (codes "ThreadGroup", types.ThreadGroup)
    ∷ (codes "Simple", types.Simple)
    ∷ (codes "OnceOnly", types.OnceOnly)
    ∷ (codes "Interleave", types.Interleave)
    ∷ (codes "Random", types.Random)
    ∷ (codes "RandomOrder", types.RandomOrder)
    ∷ (codes "Transaction", types.Transaction)
    ∷ (codes "Loop", types.Loop)
    ∷ (codes "If", types.If)
    ∷ (codes "While", types.While)
    ∷ (codes "Switch", types.Switch)
    ∷ (codes "ForEach", types.ForEach)
    ∷ (codes "CriticalSection", types.CriticalSection)
    ∷ (codes "Script", types.Script)
    ∷ (codes "Http", types.Http)
    ∷ (codes "UserVariables", types.UserVariables)
    ∷ (codes "HttpDefaults", types.HttpDefaults)
    ∷ (codes "HeaderManager", types.HeaderManager)
    ∷ (codes "Counter", types.Counter)
    ∷ (codes "DataSet", types.DataSet)
    ∷ (codes "UserParameters", types.UserParameters)
    ∷ (codes "ConstantTimer", types.ConstantTimer)
    ∷ (codes "UniformTimer", types.UniformTimer)
    ∷ (codes "RegexExtractor", types.RegexExtractor)
    ∷ (codes "JsonExtractor", types.JsonExtractor)
    ∷ (codes "BoundaryExtractor", types.BoundaryExtractor)
    ∷ (codes "ResponseAssertion", types.ResponseAssertion)
    ∷ (codes "DurationAssertion", types.DurationAssertion)
    ∷ (codes "SizeAssertion", types.SizeAssertion)
    ∷ (codes "Listener", types.Listener)
    ∷ []

abbrev pub first_named : List ℕ → List (List ℕ × ElementType) → Option ElementType
first_named name [] = None
first_named name (t ∷ ts) = if bytes_eq name t.0 then Some t.1 else first_named name ts

abbrev pub type_of_name : List ℕ → Option ElementType
type_of_name name = first_named name named
