-- The properties of a kind, in byte order of their names.
use Rattle.std.specs.Prelude.{ℕ, ℤ, pos, negsuc, List, [], ◌∷◌, Option, Some, None, codes}
use Rattle.element_props.specs.NamedProps.{NamedValue, ◌holds◌}
use Rattle.element_props.specs.ChoiceTexts.{on_error_word, field_word, method_word, at_end_word, share_word, test_word, comparison_word}
use Rattle.element_props.specs.declared.prop.Prop.{Prop}
use Rattle.element_props.specs.declared.prop.Prop.TheVariants.{Absent, Template, Text, Number, Truth, Word, Pattern, Pairs, Replies, Texts, Patterns}
use Rattle.jm_base.specs.declared.types.ScriptReply.{ScriptReply}
use Rattle.element_tree.specs.declared.kinds.Kind.{Kind}
use Rattle.element_tree.specs.declared.kinds.Kind.TheVariants as kinds
use Rattle.element_tree.specs.declared.kinds.Assertion.TheVariants.{Response, Duration, Size}
use Rattle.element_tree.specs.declared.kinds.Loops.{Loops}
use Rattle.element_tree.specs.declared.kinds.Loops.TheVariants.{Forever, Times}

abbrev pub maybe : Option (List ℕ) → Prop
maybe None = Absent
maybe (Some s) = Text s

abbrev pub maybe_replies : Option (List ScriptReply) → Prop
maybe_replies None = Absent
maybe_replies (Some rs) = Replies rs

abbrev pub loops_number : Loops → ℤ
loops_number Forever = negsuc 0
loops_number (Times n) = pos n

-- of what comes before or after a sample; no other kind has any here
abbrev pub attached_values : Kind → List NamedValue
attached_values (kinds.UserParameters vars) = (codes "vars" holds Pairs vars) ∷ []
attached_values (kinds.ConstantTimer delay) = (codes "delay" holds Template delay) ∷ []
attached_values (kinds.UniformTimer offset range) = (codes "offset" holds Template offset) ∷ (codes "range" holds Template range) ∷ []
attached_values (kinds.RegexExtractor x) =
    (codes "default" holds maybe x.default)
    ∷ (codes "field" holds Word (field_word x.field))
    ∷ (codes "match" holds Number x.match_)
    ∷ (codes "pattern" holds Pattern x.pattern)
    ∷ (codes "ref" holds Text x.ref_)
    ∷ (codes "template" holds Text x.template)
    ∷ []
attached_values (kinds.JsonExtractor x) =
    (codes "default" holds maybe x.default)
    ∷ (codes "match" holds Number x.match_)
    ∷ (codes "path" holds Text x.path)
    ∷ (codes "ref" holds Text x.ref_)
    ∷ []
attached_values (kinds.BoundaryExtractor x) =
    (codes "default" holds maybe x.default)
    ∷ (codes "field" holds Word (field_word x.field))
    ∷ (codes "left" holds Text x.left)
    ∷ (codes "match" holds Number x.match_)
    ∷ (codes "ref" holds Text x.ref_)
    ∷ (codes "right" holds Text x.right)
    ∷ []
attached_values (kinds.ResponseAssertion (Response field ignore_status not or patterns regexes test whole_regexes)) =
    (codes "field" holds Word (field_word field))
    ∷ (codes "ignoreStatus" holds Truth ignore_status)
    ∷ (codes "not" holds Truth not)
    ∷ (codes "or" holds Truth or)
    ∷ (codes "patterns" holds Patterns patterns regexes whole_regexes)
    ∷ (codes "test" holds Word (test_word test))
    ∷ []
attached_values (kinds.DurationAssertion (Duration ms)) = (codes "ms" holds Number (pos ms)) ∷ []
attached_values (kinds.SizeAssertion (Size op size)) = (codes "op" holds Word (comparison_word op)) ∷ (codes "size" holds Number (pos size)) ∷ []
attached_values kind = []

-- of configuration
abbrev pub config_values : Kind → List NamedValue
config_values (kinds.UserVariables vars) = (codes "vars" holds Pairs vars) ∷ []
config_values (kinds.HttpDefaults host path port) =
    (codes "host" holds Template host)
    ∷ (codes "path" holds Template path)
    ∷ (codes "port" holds Template port)
    ∷ []
config_values (kinds.HeaderManager headers) = (codes "headers" holds Pairs headers) ∷ []
config_values (kinds.Counter increment maximum start var) =
    (codes "increment" holds Number (pos increment))
    ∷ (codes "maximum" holds Number (pos maximum))
    ∷ (codes "start" holds Number (pos start))
    ∷ (codes "var" holds Text var)
    ∷ []
config_values (kinds.DataSet at_end names share text) =
    (codes "atEnd" holds Word (at_end_word at_end))
    ∷ (codes "names" holds Texts names)
    ∷ (codes "share" holds Word (share_word share))
    ∷ (codes "text" holds Text text)
    ∷ []
config_values kind = attached_values kind

-- of samplers
abbrev pub sampler_values : Kind → List NamedValue
sampler_values (kinds.Script replies request) = (codes "replies" holds Replies replies) ∷ (codes "request" holds Template request) ∷ []
sampler_values (kinds.Http body host method params path port replies) =
    (codes "body" holds Template body)
    ∷ (codes "host" holds Template host)
    ∷ (codes "method" holds Word (method_word method))
    ∷ (codes "params" holds Pairs params)
    ∷ (codes "path" holds Template path)
    ∷ (codes "port" holds Template port)
    ∷ (codes "replies" holds maybe_replies replies)
    ∷ []
sampler_values kind = config_values kind

-- of controllers
abbrev pub controller_values : Kind → List NamedValue
controller_values (kinds.Loop loops) = (codes "loops" holds Template loops) ∷ []
controller_values (kinds.If all condition) = (codes "all" holds Truth all) ∷ (codes "condition" holds Template condition) ∷ []
controller_values (kinds.While condition) = (codes "condition" holds Template condition) ∷ []
controller_values (kinds.Switch value) = (codes "value" holds Template value) ∷ []
controller_values (kinds.ForEach end input output separator start) =
    (codes "end" holds Number (pos end))
    ∷ (codes "input" holds Text input)
    ∷ (codes "output" holds Text output)
    ∷ (codes "separator" holds Truth separator)
    ∷ (codes "start" holds Number (pos start))
    ∷ []
controller_values (kinds.CriticalSection lock) = (codes "lock" holds Text lock) ∷ []
controller_values kind = sampler_values kind

-- of any kind
abbrev pub values_of : Kind → List NamedValue
values_of (kinds.TestPlan version) = (codes "version" holds Number (pos version)) ∷ []
values_of (kinds.ThreadGroup loops on_error ramp_ms threads) =
    (codes "loops" holds Number (loops_number loops))
    ∷ (codes "onError" holds Word (on_error_word on_error))
    ∷ (codes "rampMs" holds Number (pos ramp_ms))
    ∷ (codes "threads" holds Number (pos threads))
    ∷ []
values_of kind = controller_values kind
