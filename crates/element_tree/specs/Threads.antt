-- The threads of a plan, over all its groups.
use Rattle.std.specs.Prelude.{Bool, is_some, ℕ, zero, suc, ◌+◌, List, [], ◌∷◌, ◌++◌, Option, Some, None, codes, decimal}
use Rattle.element_tree.specs.declared.kinds.Element.{Element}
use Rattle.element_tree.specs.declared.kinds.Kind.{Kind}
use Rattle.element_tree.specs.declared.kinds.Kind.TheVariants.{ThreadGroup}
use Rattle.element_tree.specs.declared.threads.Thread.{Thread}

-- how many threads a thread group has
abbrev pub group_size : Kind → Option ℕ
group_size (ThreadGroup loops on_error ramp_ms threads) = Some threads
group_size kind = None

abbrev pub is_group_element : Element → Bool
is_group_element e = is_some (group_size e.kind)

-- the first n threads of a group: the group's element, the group's number, and the thread's number in the group from 1
abbrev pub group_threads : ℕ → ℕ → ℕ → List Thread
group_threads element group zero = []
group_threads element group (suc n) = group_threads element group n ++ record { element = element; group = group; number = suc n } ∷ []

-- the threads of a group, if it is one, and the later threads, which begin with the next group's
abbrev pub threads_with : ℕ → ℕ → Option ℕ → (ℕ → List Thread) → List Thread
threads_with element group None later = later group
threads_with element group (Some n) later = group_threads element group n ++ later (group + 1)

-- the threads of elements whose numbers begin at this one, where the groups' numbers begin at that one
abbrev pub threads_from : ℕ → ℕ → List Element → List Thread
threads_from element group [] = []
threads_from element group (e ∷ es) = threads_with element group (group_size e.kind) (λ g. threads_from (element + 1) g es)

-- the threads of all thread groups in tree order, group by group: elements are numbered from 0, groups from 1
unfoldable pub threads_in : List Element → List Thread
threads_in elements = threads_from 0 1 elements

-- the name of a thread of a group of this name: a space, the group's number, a hyphen, and the thread's number in the group
abbrev pub thread_text : List ℕ → Thread → List ℕ
thread_text name t = name ++ codes " " ++ decimal t.group ++ codes "-" ++ decimal t.number
