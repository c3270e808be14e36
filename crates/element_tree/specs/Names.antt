-- The labels and the locks of a plan: distinct names, in order of first appearance.
use Rattle.std.specs.Prelude.{ℕ, Bool, true, false, List, [], ◌∷◌, ◌++◌, Option, Some, None, unwrap_or, position, if◌then◌else◌}
use Rattle.std.specs.List.{list_any, filter_map}
use Rattle.jm_base.specs.Outside.{same_bytes}
use Rattle.element_tree.specs.declared.kinds.Element.{Element}
use Rattle.element_tree.specs.declared.kinds.Kind.{Kind}
use Rattle.element_tree.specs.declared.kinds.Kind.TheVariants.{CriticalSection, Transaction, Script, Http}
use Rattle.element_tree.specs.declared.names.Naming.{Naming}
use Rattle.element_tree.specs.declared.names.Naming.TheVariants.{Label, Lock}

-- whether elements of this kind give samples: samplers and transactions
abbrev pub gives_samples : Kind → Bool
gives_samples (Script replies request) = true
gives_samples (Http body host method params path port replies) = true
gives_samples Transaction = true
gives_samples kind = false

-- the name under which an element gives its samples
abbrev pub sample_name : Element → Option (List ℕ)
sample_name e = if gives_samples e.kind then Some e.name else None

-- the name of the lock of a critical section
abbrev pub lock_of_kind : Kind → Option (List ℕ)
lock_of_kind (CriticalSection lock) = Some lock
lock_of_kind kind = None

abbrev pub lock_name : Element → Option (List ℕ)
lock_name e = lock_of_kind e.kind

-- with this text at the end, where it isn't there yet
abbrev pub with_text : List (List ℕ) → List ℕ → List (List ℕ)
with_text seen x = if list_any (same_bytes x) seen then seen else seen ++ x ∷ []

-- the distinct texts of these, after those that were seen, in order of first appearance
abbrev pub distinct_after : List (List ℕ) → List (List ℕ) → List (List ℕ)
distinct_after seen [] = seen
distinct_after seen (x ∷ xs) = distinct_after (with_text seen x) xs

-- the distinct names that elements have
abbrev pub names_by : (Element → Option (List ℕ)) → List Element → List (List ℕ)
names_by name elements = distinct_after [] (filter_map name elements)

-- the labels: the distinct names of samplers and transactions
unfoldable pub labels_of : List Element → List (List ℕ)
labels_of elements = names_by sample_name elements

-- the locks: the distinct names of the locks of critical sections
unfoldable pub locks_of : List Element → List (List ℕ)
locks_of elements = names_by lock_name elements

-- the number of a name among these
abbrev pub number_in : List (List ℕ) → List ℕ → ℕ
number_in names name = unwrap_or (position (same_bytes name) names) 0

-- the number of the label of an element of this name
abbrev pub label_of : List Element → List ℕ → ℕ
label_of elements name = number_in (labels_of elements) name

-- the number of the lock of this name
abbrev pub lock_of : List Element → List ℕ → ℕ
lock_of elements name = number_in (locks_of elements) name

-- ---- labels and locks in one word

abbrev pub name_by : Naming → Element → Option (List ℕ)
name_by Label e = sample_name e
name_by Lock e = lock_name e

-- the text by which an element's number is looked up
abbrev pub looked_up : Naming → Element → List ℕ
looked_up Label e = e.name
looked_up Lock e = unwrap_or (lock_name e) []

abbrev pub names_of : Naming → List Element → List (List ℕ)
names_of naming elements = names_by (name_by naming) elements

-- the names with that of one more element, if it has one
abbrev pub with_name : List (List ℕ) → Option (List ℕ) → List (List ℕ)
with_name seen None = seen
with_name seen (Some name) = with_text seen name
