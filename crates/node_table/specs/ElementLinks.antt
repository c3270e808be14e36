-- Where a run goes on from an element, and the element whose rounds it is in.
use Rattle.std.specs.Prelude.{ℕ, Bool, true, false, List, [], ◌∷◌, length, reverse, map, Option, slice_get, unwrap_or, nat_eq, if◌then◌else◌}
use Rattle.std.specs.List.{find, filter, range_with_len}
use Rattle.std.specs.Option.{option_map}
use Rattle.element_tree.specs.declared.kinds.Element.{Element}
use Rattle.element_tree.specs.declared.types.ElementType.{ElementType}
use Rattle.element_tree.specs.declared.types.ElementType.TheVariants as types
use Rattle.element_tree.specs.Types.{type_of}
use Rattle.cursor_steps.specs.RunningChildren.{is_run_at}
use Rattle.scope_resolver.specs.Scoping.{parent_in, line_to}
use Rattle.node_table.specs.declared.element_links.Link.{Link}

-- the children of the element of this number
abbrev pub children_at : List Element → ℕ → List ℕ
children_at elements n = unwrap_or (option_map (λ e. e.children) (slice_get elements n)) []

-- its children that are controllers or samplers, in order
abbrev pub runs_at : List Element → ℕ → List ℕ
runs_at elements n = filter (is_run_at elements) (children_at elements n)

-- the one at this place among them, from 0
abbrev pub child_of : List Element → ℕ → ℕ → Option ℕ
child_of elements n place = slice_get (runs_at elements n) place

-- its first child that is a controller or a sampler
abbrev pub first_of : List Element → ℕ → Option ℕ
first_of elements n = find (is_run_at elements) (children_at elements n)

-- those of these numbers that stand after this one
abbrev pub later_than : ℕ → List ℕ → List ℕ
later_than n [] = []
later_than n (m ∷ ms) = if nat_eq m n then ms else later_than n ms

-- the next child of the element above it that is a controller or a sampler
abbrev pub after_of : List Element → ℕ → Option ℕ
after_of elements n = find (is_run_at elements) (later_than n (children_at elements (parent_in elements n)))

-- the types whose elements run in rounds
abbrev pub is_looping_type : ElementType → Bool
is_looping_type types.ThreadGroup = true
is_looping_type types.Loop = true
is_looping_type types.While = true
is_looping_type types.ForEach = true
is_looping_type t = false

abbrev pub is_looping_at : List Element → ℕ → Bool
is_looping_at elements n = unwrap_or (option_map (λ e. is_looping_type (type_of e.kind)) (slice_get elements n)) false

-- the nearest element above it that runs in rounds
abbrev pub looping_above : List Element → ℕ → Option ℕ
looping_above elements n = find (is_looping_at elements) (reverse (line_to elements (parent_in elements n)))

-- the same, or, where there is none, the element itself
abbrev pub looping_of : List Element → ℕ → ℕ
looping_of elements n = unwrap_or (looping_above elements n) n

abbrev pub link_of : List Element → ℕ → Link
link_of elements n = record { runs = runs_at elements n; first = first_of elements n; after = after_of elements n; above = looping_above elements n }

-- the links of all elements, by their numbers
abbrev pub links_of : List Element → List Link
links_of elements = map (link_of elements) (range_with_len 0 (length elements))
