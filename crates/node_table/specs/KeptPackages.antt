-- The packages that are kept for the elements of a plan.
use Rattle.std.specs.Prelude.{ℕ, List, length, map, Option, Some, None, slice_index_or, if◌then◌else◌}
use Rattle.std.specs.List.{range_with_len}
use Rattle.std.specs.Option.{option_and_then}
use Rattle.element_tree.specs.declared.kinds.Element.{Element}
use Rattle.element_tree.specs.Scope.{Scope}
use Rattle.element_tree.specs.Types.{is_leaf}
use Rattle.scope_resolver.specs.Scoping.{class_at, scope_of}

-- Of a sampler, and of each element that samplers may stand below, its package. Elements that only take part in samples
-- have none.
abbrev pub kept_of : List Element → ℕ → Option Scope
kept_of elements n = option_and_then (λ class. if is_leaf class then None else Some (scope_of elements n)) (class_at elements n)

-- the packages of all elements, by their numbers
abbrev pub packages_of : List Element → List (Option Scope)
packages_of elements = map (kept_of elements) (range_with_len 0 (length elements))

-- the package that is kept for the element of this number, where one is
abbrev pub package_at : List (Option Scope) → ℕ → Option Scope
package_at packages n = slice_index_or packages n None
