-- The sections of the threads of a run.
use Rattle.std.specs.Prelude.{◌≡◌, ℕ, ◌+◌, ◌≤◌, ◌<◌, List, [], ◌∷◌, ◌++◌, Option, Some, None, length, slice_index_or}
use Rattle.element_tree.specs.Names.{locks_of}
use Rattle.critical_section.specs.declared.rule.SeatView.{SeatView}
use Rattle.critical_section.specs.declared.places.Sections.{Sections}
use Rattle.critical_section.specs.declared.places.SectionSeat.{SectionSeat}
use Rattle.critical_section.specs.Book.{Section, IsPast, HasOpen, HasPlacesBelow}
use Rattle.critical_section.specs.SectionSeats.{view_of, IsSeatOf, locks_of as locks_in}
use Rattle.thread_machine.specs.declared.trace.TraceItem.{TraceItem}
use Rattle.thread_machine.specs.declared.trace.TraceItem.TheVariants.{Entered}
use Rattle.thread_machine.specs.SectionOrder.{LeavesAll}
use Rattle.thread_machine.specs.Standing.{Standing}

-- the lock and the place of a section
abbrev pub section_in : TraceItem → List Section
section_in (Entered lock place) = (lock, place) ∷ []
section_in item = []

-- the lock and the place of each section of a trace, in its order
abbrev pub entered_in : List TraceItem → List Section
entered_in [] = []
entered_in (item ∷ items) = section_in item ++ entered_in items

-- the sections of each trace
abbrev pub sections_of_all : List (List TraceItem) → List (List Section)
sections_of_all [] = []
sections_of_all (trace ∷ traces) = entered_in trace ∷ sections_of_all traces

-- after those sections, the place of each of these comes after all before it of its lock
abbrev pub RisesAfter : List Section → List Section → Type 0
RisesAfter before [] = Unit {0}
RisesAfter before (x ∷ xs) = IsPast x.0 x.1 before × RisesAfter (before ++ x ∷ []) xs

-- within a trace the places of each lock rise
abbrev pub Rises : List TraceItem → Type 0
Rises trace = RisesAfter [] (entered_in trace)

abbrev pub AllRise : List (List TraceItem) → Type 0
AllRise traces = (i : ℕ) (d : List TraceItem) → i < length traces → Rises (slice_index_or traces i d)

-- in each trace each section is entered where none is open, and left: none is open at the end
abbrev pub AllLeave : List (List TraceItem) → Type 0
AllLeave traces = (i : ℕ) (d : List TraceItem) → i < length traces → LeavesAll (slice_index_or traces i d)

-- of each lock, the places of its sections in all traces together are the numbers below how many there are, each once
abbrev pub AreNumbered : ℕ → List (List TraceItem) → Type 0
AreNumbered locks traces = (lock : ℕ) → lock < locks → (n : ℕ) × HasPlacesBelow lock n (sections_of_all traces)

-- a thread's seat has just the sections of its trace, all of them closed, and no other seat was joined into it
pub record KeepsSections (s : Sections) (seat : SectionSeat) (w : Standing) : Type 0 where
  pub seat_of : IsSeatOf s seat
  pub none_open : (view_of seat).inside ≡ None
  pub own : (view_of seat).own ≡ entered_in w.trace
  pub joined : (view_of seat).joined ≡ []
  pub one : (view_of seat).seats ≡ 1
  pub locks : length (locks_of w.plan.elements) ≤ locks_in s

-- the first seat, which has entered no section, after this many more were made of it, and none taken in
pub record IsFirstSeat (s : Sections) (more : ℕ) (seat : SectionSeat) : Type 0 where
  pub seat_of : IsSeatOf s seat
  pub made : (view_of seat).made ≡ more + 1
  pub one : (view_of seat).seats ≡ 1
  pub none_open : (view_of seat).inside ≡ None
  pub own : (view_of seat).own ≡ []
  pub joined : (view_of seat).joined ≡ []

-- the same seat, after these lists of others were taken in
pub record HasTaken (s : Sections) (before : SeatView) (lists : List (List Section)) (seat : SectionSeat) : Type 0 where
  pub seat_of : IsSeatOf s seat
  pub view : view_of seat ≡ record before { seats = before.seats + length lists; joined = before.joined ++ lists }

-- the seat has the section of this lock open, where it is one
abbrev pub HeldAs : Option ℕ → SeatView → Type 0
HeldAs None v = v.inside ≡ None
HeldAs (Some lock) v = HasOpen lock v
