-- The types of element, and the class of each.
use Rattle.std.specs.Prelude.{Bool, true, false, not, Option, Some, None, if◌then◌else◌}
use Rattle.element_tree.specs.declared.kinds.Kind.{Kind}
use Rattle.element_tree.specs.declared.kinds.Kind.TheVariants as kinds
use Rattle.element_tree.specs.declared.types.ElementType.{ElementType}
use Rattle.element_tree.specs.declared.types.ElementType.TheVariants as types
use Rattle.element_tree.specs.declared.types.Class.{Class}
use Rattle.element_tree.specs.declared.types.Class.TheVariants as classes

abbrev pub type_of : Kind → ElementType
type_of (kinds.TestPlan version) = types.TestPlan
type_of (kinds.ThreadGroup loops on_error ramp_ms threads) = types.ThreadGroup
type_of kinds.Simple = types.Simple
type_of kinds.OnceOnly = types.OnceOnly
type_of kinds.Interleave = types.Interleave
type_of kinds.Random = types.Random
type_of kinds.RandomOrder = types.RandomOrder
type_of kinds.Transaction = types.Transaction
type_of (kinds.Loop loops) = types.Loop
type_of (kinds.If all condition) = types.If
type_of (kinds.While condition) = types.While
type_of (kinds.Switch value) = types.Switch
type_of (kinds.ForEach end input output separator start) = types.ForEach
type_of (kinds.CriticalSection lock) = types.CriticalSection
type_of (kinds.Script replies request) = types.Script
type_of (kinds.Http body host method params path port replies) = types.Http
type_of (kinds.UserVariables vars) = types.UserVariables
type_of (kinds.HttpDefaults host path port) = types.HttpDefaults
type_of (kinds.HeaderManager headers) = types.HeaderManager
type_of (kinds.Counter increment maximum start var) = types.Counter
type_of (kinds.DataSet at_end names share text) = types.DataSet
type_of (kinds.UserParameters vars) = types.UserParameters
type_of (kinds.ConstantTimer delay) = types.ConstantTimer
type_of (kinds.UniformTimer offset range) = types.UniformTimer
type_of (kinds.RegexExtractor x) = types.RegexExtractor
type_of (kinds.JsonExtractor x) = types.JsonExtractor
type_of (kinds.BoundaryExtractor x) = types.BoundaryExtractor
type_of (kinds.ResponseAssertion a) = types.ResponseAssertion
type_of (kinds.DurationAssertion a) = types.DurationAssertion
type_of (kinds.SizeAssertion a) = types.SizeAssertion
type_of kinds.Listener = types.Listener

abbrev pub class_of_type : ElementType → Class
class_of_type types.TestPlan = classes.Root
class_of_type types.ThreadGroup = classes.Group
class_of_type types.Simple = classes.Controller
class_of_type types.OnceOnly = classes.Controller
class_of_type types.Interleave = classes.Controller
class_of_type types.Random = classes.Controller
class_of_type types.RandomOrder = classes.Controller
class_of_type types.Transaction = classes.Controller
class_of_type types.Loop = classes.Controller
class_of_type types.If = classes.Controller
class_of_type types.While = classes.Controller
class_of_type types.Switch = classes.Controller
class_of_type types.ForEach = classes.Controller
class_of_type types.CriticalSection = classes.Controller
class_of_type types.Script = classes.Sampler
class_of_type types.Http = classes.Sampler
class_of_type types.UserVariables = classes.Config
class_of_type types.HttpDefaults = classes.Config
class_of_type types.HeaderManager = classes.Config
class_of_type types.Counter = classes.Config
class_of_type types.DataSet = classes.Config
class_of_type types.UserParameters = classes.PreProcessor
class_of_type types.ConstantTimer = classes.Timer
class_of_type types.UniformTimer = classes.Timer
class_of_type types.RegexExtractor = classes.PostProcessor
class_of_type types.JsonExtractor = classes.PostProcessor
class_of_type types.BoundaryExtractor = classes.PostProcessor
class_of_type types.ResponseAssertion = classes.Assertion
class_of_type types.DurationAssertion = classes.Assertion
class_of_type types.SizeAssertion = classes.Assertion
class_of_type types.Listener = classes.Listener

abbrev pub class_of : Kind → Class
class_of kind = class_of_type (type_of kind)

-- ---- the places of the classes

abbrev pub is_root : Class → Bool
is_root classes.Root = true
is_root class = false

abbrev pub is_group : Class → Bool
is_group classes.Group = true
is_group class = false

-- a thread group or a controller
abbrev pub is_inner : Class → Bool
is_inner classes.Group = true
is_inner classes.Controller = true
is_inner class = false

-- what takes part in samples, and has nothing below it
abbrev pub is_leaf : Class → Bool
is_leaf classes.Root = false
is_leaf classes.Group = false
is_leaf classes.Controller = false
is_leaf classes.Sampler = false
is_leaf class = true

-- Whether an element of this class may stand right below one of that class, or, where nothing is above it, be the root:
-- a thread group below the root, controllers and samplers below a group or a controller, and what takes part in samples
-- below whatever may have something below it.
abbrev pub may_stand : Option Class → Class → Bool
may_stand None class = is_root class
may_stand (Some above) class =
    if is_root class then false
    else if is_group class then is_root above
    else if is_leaf class then not (is_leaf above)
    else is_inner above

abbrev pub is_section_type : ElementType → Bool
is_section_type types.CriticalSection = true
is_section_type t = false

abbrev pub is_section : Kind → Bool
is_section kind = is_section_type (type_of kind)
