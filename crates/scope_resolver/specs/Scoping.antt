-- Which elements apply to a sampler, and in which order they act.
use Rattle.std.specs.Prelude.{ℕ, Bool, true, false, List, [], length, Option, slice_get, unwrap_or}
use Rattle.std.specs.List.{filter}
use Rattle.std.specs.Option.{option_map}
use Rattle.element_tree.specs.declared.kinds.Element.{Element}
use Rattle.element_tree.specs.declared.types.Class.{Class}
use Rattle.element_tree.specs.declared.types.Class.TheVariants as classes
use Rattle.element_tree.specs.Types.{class_of}
use Rattle.element_tree.specs.Scope.{Scope}
use Rattle.scope_resolver.specs.Ancestry.{line, hanging_by, applying_by, Applies, Precedes}

-- the parent of an element; the root, element 0, is its own
abbrev pub parent_in : List Element → ℕ → ℕ
parent_in elements n = unwrap_or (option_map (λ e. e.parent) (slice_get elements n)) 0

-- an element and all above it, from the root down to it; a parent has a lower number, so that n steps lead to the root
abbrev pub line_to : List Element → ℕ → List ℕ
line_to elements n = line (parent_in elements) n n

-- what hangs directly on an element, in tree order
abbrev pub hanging_on : List Element → ℕ → List ℕ
hanging_on elements level = hanging_by (parent_in elements) (length elements) level

-- what hangs on an element or on one above it: level by level from the root down to the element, in tree order within a level
abbrev pub applying_to : List Element → ℕ → List ℕ
applying_to elements s = applying_by (parent_in elements) (length elements) s

-- the element n hangs directly on s, or on an element above s
abbrev pub AppliesTo : List Element → ℕ → ℕ → Type 0
AppliesTo elements n s = Applies (parent_in elements) (length elements) n s

-- of two elements this one is the less deep, or, where both are as deep, the earlier in tree order
abbrev pub ActsBefore : List Element → ℕ → ℕ → Type 0
ActsBefore elements m n = Precedes (parent_in elements) m n

-- ---- by class

abbrev pub same_class : Class → Class → Bool
same_class classes.Root classes.Root = true
same_class classes.Group classes.Group = true
same_class classes.Controller classes.Controller = true
same_class classes.Sampler classes.Sampler = true
same_class classes.Config classes.Config = true
same_class classes.PreProcessor classes.PreProcessor = true
same_class classes.Timer classes.Timer = true
same_class classes.PostProcessor classes.PostProcessor = true
same_class classes.Assertion classes.Assertion = true
same_class classes.Listener classes.Listener = true
same_class a b = false

-- the class of an element
abbrev pub class_at : List Element → ℕ → Option Class
class_at elements n = option_map (λ e. class_of e.kind) (slice_get elements n)

abbrev pub is_of_class : List Element → Class → ℕ → Bool
is_of_class elements class n = unwrap_or (option_map (same_class class) (class_at elements n)) false

-- the elements of this class that apply to a sampler, outermost level first, in tree order within a level
unfoldable pub package_of : List Element → ℕ → Class → List ℕ
package_of elements s class = filter (is_of_class elements class) (applying_to elements s)

-- the package of a sampler
abbrev pub scope_of : List Element → ℕ → Scope
scope_of elements s = record {
  config = package_of elements s classes.Config;
  pre = package_of elements s classes.PreProcessor;
  timers = package_of elements s classes.Timer;
  post = package_of elements s classes.PostProcessor;
  assertions = package_of elements s classes.Assertion;
  listeners = package_of elements s classes.Listener;
}

-- the list of a package for this class
abbrev pub list_of : Scope → Class → List ℕ
list_of scope classes.Config = scope.config
list_of scope classes.PreProcessor = scope.pre
list_of scope classes.Timer = scope.timers
list_of scope classes.PostProcessor = scope.post
list_of scope classes.Assertion = scope.assertions
list_of scope classes.Listener = scope.listeners
list_of scope class = []
