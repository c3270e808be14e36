-- The sections of a trace, and its end.
use Rattle.std.specs.Prelude.{◌≡◌, ℕ, ◌==◌, List, [], ◌∷◌, ◌++◌, Option, Some, None, if◌then◌else◌}
use Rattle.std.specs.List.{sum_by}
use Rattle.jm_meaning.specs.declared.item.Item.{Item}
use Rattle.jm_meaning.specs.declared.item.Item.TheVariants.{Entered as EnteredBare, Left as LeftBare, Ended as EndedBare}
use Rattle.thread_machine.specs.declared.trace.TraceItem.{TraceItem}
use Rattle.thread_machine.specs.declared.trace.TraceItem.TheVariants.{Entered, Left, Ended}

-- From this open section on, these items leave that one open: each section is entered where none is open, and the open one
-- is left.
abbrev pub SectionsFrom : Option ℕ → List TraceItem → Option ℕ → Type 0
SectionsFrom held [] last = last ≡ held
SectionsFrom held (Entered lock place ∷ items) last = (held ≡ None) × SectionsFrom (Some lock) items last
SectionsFrom held (Left lock ∷ items) last = (held ≡ Some lock) × SectionsFrom None items last
SectionsFrom held (item ∷ items) last = SectionsFrom held items last

-- each section of a trace is entered where none is open, and none is open at its end
abbrev pub LeavesAll : List TraceItem → Type 0
LeavesAll items = SectionsFrom None items None

-- the section that is open after these items, where this one was before
abbrev pub open_from : Option ℕ → List Item → Option ℕ
open_from held [] = held
open_from held (EnteredBare lock ∷ items) = open_from (Some lock) items
open_from held (LeftBare lock ∷ items) = open_from None items
open_from held (item ∷ items) = open_from held items

-- that the section of this lock is left, where one is open
abbrev pub left_items : Option ℕ → List Item
left_items None = []
left_items (Some lock) = LeftBare lock ∷ []

abbrev pub left_traced : Option ℕ → List TraceItem
left_traced None = []
left_traced (Some lock) = Left lock ∷ []

-- no end of a thread
abbrev pub IsNoEnd : TraceItem → Type 0
IsNoEnd (Ended end) = ⊥
IsNoEnd item = Unit {0}

-- the same of a bare trace
abbrev pub IsBareNoEnd : Item → Type 0
IsBareNoEnd (EndedBare end) = ⊥
IsBareNoEnd item = Unit {0}

-- how many sections a trace has
abbrev pub one_if_section : TraceItem → ℕ
one_if_section (Entered lock place) = 1
one_if_section item = 0

abbrev pub sections_in : List TraceItem → ℕ
sections_in trace = sum_by one_if_section trace

-- how many of them are of this lock
abbrev pub one_if_of : ℕ → TraceItem → ℕ
one_if_of lock (Entered other place) = if other == lock then 1 else 0
one_if_of lock item = 0

abbrev pub sections_of : ℕ → List TraceItem → ℕ
sections_of lock trace = sum_by (one_if_of lock) trace

-- a section's place is how many sections of its lock came before it
abbrev pub IsPlaced : List TraceItem → TraceItem → Type 0
IsPlaced before (Entered lock place) = place ≡ sections_of lock before
IsPlaced before item = Unit {0}

-- the places of the sections of these items, which come after those
abbrev pub PlacedAfter : List TraceItem → List TraceItem → Type 0
PlacedAfter before [] = Unit {0}
PlacedAfter before (item ∷ items) = IsPlaced before item × PlacedAfter (before ++ item ∷ []) items
